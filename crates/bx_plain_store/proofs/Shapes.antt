-- Why the parts keep their shape.
use Rattle.std.proofs.Common.{◌≡◌, ℕ, ◌<◌, Bool, List, Contains, length, set, Option, Some, sym, ◌∙◌, subst}
use Rattle.std.proofs.lemmas.List.{length-set}
use Rattle.bx_records.specs.declared.runs.Run.{Run}
use Rattle.bx_facts.specs.Writes.{AreRuns, Asked, IsRun, Made, Sent}
use Rattle.bx_plain_store.specs.declared.writes.Write.{Write}
use Rattle.bx_plain_store.specs.Out.{out_at, out_in, sent_of}
use Rattle.bx_plain_store.proofs.Serving.{set_each}
use Rattle.bx_plain_store.specs.declared.inquiries.Inquiry.{Inquiry}
use Rattle.bx_plain_store.specs.Parts.{IsAsk, IsShape, asked_at, asked_in, asked_of}

-- where nothing new is out
pub shape_then : (made : Made) (owns owns_then : List (Option ℕ)) (slots slots_then : List (Option Write)) (inquiries inquiries_then : List (Option Inquiry)) (down down_then : List Bool)
    → length owns_then ≡ length owns → length slots_then ≡ length slots → length inquiries_then ≡ length inquiries → length down_then ≡ length down
    → ((node : ℕ) (sent : Sent) → out_at slots_then node ≡ Some sent → out_at slots node ≡ Some sent)
    → ((node : ℕ) (asks : Asked) → asked_at inquiries_then node ≡ Some asks → asked_at inquiries node ≡ Some asks)
    → IsShape made owns slots inquiries down → IsShape made owns_then slots_then inquiries_then down_then
shape_then made owns owns_then slots slots_then inquiries inquiries_then down down_then own_long out_long asked_long down_long out asked shape = record {
  least_devices = shape.least_devices;
  most_devices = shape.most_devices;
  least_areas = shape.least_areas;
  most_areas = shape.most_areas;
  owns_long = own_long ∙ shape.owns_long;
  slots_long = out_long ∙ shape.slots_long;
  inquiries_long = asked_long ∙ shape.inquiries_long;
  down_long = down_long ∙ shape.down_long;
  runs = λ node sent run is has. shape.runs node sent run (out node sent is) has;
  asks = λ node asks is. shape.asks node asks (asked node asks is);
}

-- with a write of runs that may be written
pub shape_sent : (made : Made) (owns : List (Option ℕ)) (slots : List (Option Write)) (inquiries : List (Option Inquiry)) (down : List Bool) (node : ℕ) (write : Write)
    → node < length slots → AreRuns made write.runs → IsShape made owns slots inquiries down → IsShape made owns (set slots node (Some write)) inquiries down
shape_sent made owns slots inquiries down node write less runs shape = record {
  least_devices = shape.least_devices;
  most_devices = shape.most_devices;
  least_areas = shape.least_areas;
  most_areas = shape.most_areas;
  owns_long = shape.owns_long;
  slots_long = length-set slots node (Some write) ∙ shape.slots_long;
  inquiries_long = shape.inquiries_long;
  down_long = shape.down_long;
  runs =
      let P : ℕ → Option Write → Type 0 = λ n slot. (sent : Sent) (run : Run) → out_in slot ≡ Some sent → Contains sent.runs run → IsRun made run in
      set_each P slots node (Some write) less
      (λ sent run is has. let same : sent_of write ≡ sent = (let h = is in cc) in runs.each run (subst (λ (s : Sent). Contains s.runs run) (sym same) has))
      (λ other apart sent run is has. shape.runs other sent run is has);
  asks = shape.asks;
}

-- with a read that lies in a device
pub shape_asked : (made : Made) (owns : List (Option ℕ)) (slots : List (Option Write)) (inquiries : List (Option Inquiry)) (down : List Bool) (node : ℕ) (inquiry : Inquiry)
    → node < length inquiries → IsAsk made (asked_of inquiry.ask) → IsShape made owns slots inquiries down → IsShape made owns slots (set inquiries node (Some inquiry)) down
shape_asked made owns slots inquiries down node inquiry less is_ask shape = record {
  least_devices = shape.least_devices;
  most_devices = shape.most_devices;
  least_areas = shape.least_areas;
  most_areas = shape.most_areas;
  owns_long = shape.owns_long;
  slots_long = shape.slots_long;
  inquiries_long = length-set inquiries node (Some inquiry) ∙ shape.inquiries_long;
  down_long = shape.down_long;
  runs = shape.runs;
  asks =
      let P : ℕ → Option Inquiry → Type 0 = λ n slot. (asks : Asked) → asked_in slot ≡ Some asks → IsAsk made asks in
      set_each P inquiries node (Some inquiry) less
      (λ asks is. let same : asked_of inquiry.ask ≡ asks = (let h = is in cc) in subst (IsAsk made) same is_ask)
      (λ other apart asks is. shape.asks other asks is);
}
