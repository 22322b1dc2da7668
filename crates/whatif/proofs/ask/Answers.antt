-- `whatif::ask` is safe: a change that is not refused is of a sheet whose counts are within their sizes.
use Rattle.std.proofs.Common.{◌≡◌, ℕ, List, refl}
use Rattle.answers.proofs.Calls.{answered, passed_then}
use Rattle.tables.specs.Sheet.{Lent, CountsFit}
use Rattle.tables.proofs.Accepted.{tables_passed, sheet_numbered}
use Rattle.change.specs.Change.{SetsPermission, set_permission_refusals, change_refusals}
use Rattle.whatif.proofs.ask.Goals as goal

counts_fit : (l : Lent) (r o mode : ℕ) (result : ℕ × List ℕ) → SetsPermission l r o mode result → result.0 ≡ 0 → CountsFit l.counts
unfolding set_permission_refusals change_refusals
counts_fit l r o mode result call e =
    (tables_passed _ _ l (passed_then _ _ (sheet_numbered _ _ l) (answered (λ result. result.0) (λ n. refl) call e)).0).sized.counts_fit

pub entities-requires : goal.entities-requires
entities-requires c = counts_fit _ _ _ _ _ c.in_ok-set_permission.ensures refl
