use Rattle.std.proofs.Common.{◌≡◌, List, [], Option, Some, None, sym, subst, ap, ◌∙◌, map}
use Rattle.std.specs.Prelude.{MatchResult, codes, unwrap_or}
use Rattle.clap.specs.Walk.{texts}
use Rattle.clap.specs.Words.{Text, all_of, found_of, rows_of}
use Rattle.clap.proofs.WalkLemmas.{raw_values-rows}
use Rattle.unwrap.specs.declared.command_line.matched.Refusal.TheVariants.{Usage}
use Rattle.unwrap.specs.Values.{file_view, files_read}
use Rattle.unwrap.proofs.command_line.values.files_given.Goals as goal

pub returns-in-Some : goal.returns-in-Some
returns-in-Some c =
    let all : Some (texts c.in-Some.words.now) ≡ all_of (codes "index") (rows_of (found_of c.args.matches.now)) =
    c.in-Some.ensures ∙ raw_values-rows (found_of c.args.matches.now) (codes "index") in
    subst (λ (ws : List Text). MatchResult c.files_of.result (λ files. files_read ws ≡ Some (map file_view files.items)) (λ e. e ≡ Usage → files_read ws ≡ None))
    (ap (λ (o : Option (List Text)). unwrap_or o []) all) c.files_of.ensures

pub returns-in-None : goal.returns-in-None
returns-in-None c =
    let all : None ≡ all_of (codes "index") (rows_of (found_of c.args.matches.now)) =
    c.in-None.ensures ∙ raw_values-rows (found_of c.args.matches.now) (codes "index") in
    ap (λ (o : Option (List Text)). files_read (unwrap_or o [])) (sym all) ∙ ap (λ l. Some (map file_view l)) (sym c.new.ensures.items)
