use Rattle.std.proofs.Common.{refl}
use Rattle.unwrap.proofs.Matching.{err_weaker, matched_err, matched_ok, usage_not_memory}
use Rattle.unwrap.proofs.command_line.matched.matches_in.Goals as goal

pub returns-in_err-try_get_matches_from : goal.returns-in_err-try_get_matches_from
returns-in_err-try_get_matches_from c =
    err_weaker c.from_residual.result _ _ _ c.from_residual.ensures.1
    (λ refusal gives usage. matched_err _ _ refl c.requires _ c.in_err-try_get_matches_from.field-0.0 c.in_err-try_get_matches_from.ensures.kinds (λ memory. usage_not_memory _ refusal gives usage memory))

pub returns : goal.returns
returns c =
    matched_ok _ _ refl c.requires _ _ c.in_ok-try_get_matches_from.ensures.kinds c.in_ok-try_get_matches_from.ensures.matches
