use Rattle.std.proofs.Common.{rules, ◌∙◌, ◌≡◌, ◌&&◌, Bool, true, false, not, refl, ap, ap₂, codes}
use Rattle.std.proofs.lemmas.Result.{IfOk-weaker}
use Rattle.clap.specs.Words.{App, app_of, new_app, with_subcommand}
use Rattle.bx_command_line.specs.CommandLines.{format_app, make_app, top}
use Rattle.bx_command_line.proofs.command_line.command.Goals as goal

-- the third of these tests fails: in a plain command no argument is global
third : (a b c others : Bool) → (a && (not b && (not c && others))) ≡ true → c ≡ false
third true false false others all = refl
third true false true others all = absurd cc
third true true c others all = absurd cc
third false b c others all = absurd cc

pub returns : goal.returns
returns c =
    let top_is : app_of c.disable_help_subcommand.result ≡ top = search rules in
    let replay_is : app_of c.new-2.result ≡ new_app (codes "replay") = search rules in
    let check_is : app_of c.new-3.result ≡ new_app (codes "check") = search rules in
    let format_is : app_of c.in_ok-format.field-0 ≡ format_app = c.in_ok-format.ensures in
    let one : app_of c.in_ok-subcommand.field-0 ≡ with_subcommand top (new_app (codes "replay")).top =
    c.in_ok-subcommand.ensures.shape (search rules) ∙ ap₂ with_subcommand top_is (ap (λ (a : App). a.top) replay_is) in
    let two : app_of c.in_ok-subcommand-2.field-0 ≡ with_subcommand (with_subcommand top (new_app (codes "replay")).top) format_app.top =
    c.in_ok-subcommand-2.ensures.shape (third _ _ _ _ (ap (λ (a : App). a.top.is_plain) format_is)) ∙ ap₂ with_subcommand one (ap (λ (a : App). a.top) format_is) in
    let three : app_of c.in_ok-subcommand-3.field-0 ≡ with_subcommand (with_subcommand (with_subcommand top (new_app (codes "replay")).top) format_app.top) (new_app (codes "check")).top =
    c.in_ok-subcommand-3.ensures.shape (search rules) ∙ ap₂ with_subcommand two (ap (λ (a : App). a.top) check_is) in
    let make_is : app_of c.in_ok-make.field-0 ≡ make_app = c.in_ok-make.ensures in
    IfOk-weaker c.subcommand-4.result _ _ (λ command adds. adds.shape (third _ _ _ _ (ap (λ (a : App). a.top.is_plain) make_is)) ∙ ap₂ with_subcommand three (ap (λ (a : App). a.top) make_is)) c.subcommand-4.ensures
