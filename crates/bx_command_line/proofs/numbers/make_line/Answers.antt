use Rattle.std.proofs.Common.{◌≡◌, ◌∙◌, arith, codes, refl, sym}
use Rattle.std.specs.Prelude.{decimal, string_bytes}
use Rattle.bx_command_line.proofs.WordLists.{are_four, not_other}
use Rattle.bx_command_line.proofs.numbers.make_line.Goals as goal

pub returns-clause-some : goal.returns-clause-some
returns-clause-some c =
    let words = are_four string_bytes c.args.words.now c.name-item.result c.seed-item.result c.nodes-item.result c.calls-item.result c.in-len4.len_at_least c.in-len4.len_below
    c.name-item.is c.seed-item.is c.nodes-item.is c.calls-item.is in
    let name : string_bytes c.name-item.result ≡ codes "make" = sym c.as_str.ensures.value ∙ not_other c.as_str.result.now (codes "make") c.ne.result c.ne.ensures c.if-ne.false in
    let seed = c.in_ok-number.ensures.some in
    let nodes = c.in_ok-number-2.ensures.some in
    let calls = c.in_ok-number-3.ensures.some in
    let seed_is : string_bytes c.seed-item.result ≡ decimal c.in_ok-number.field-0 = sym c.as_str-2.ensures.value ∙ seed.0 in
    let nodes_is : string_bytes c.nodes-item.result ≡ decimal c.in_ok-number-2.field-0 = sym c.as_str-3.ensures.value ∙ nodes.0 in
    let calls_is : string_bytes c.calls-item.result ≡ decimal c.in_ok-number-3.field-0 = sym c.as_str-4.ensures.value ∙ calls.0 in
    record {
      are = words ∙ rw (name, seed_is, nodes_is, calls_is) refl;
      in_range = record {
        most_seed = let most = seed.2 in omega (arith, most);
        least_nodes = nodes.1;
        most_nodes = nodes.2;
        least_calls = calls.1;
        most_calls = calls.2;
      };
    }
