-- The send times of what is left on a channel after a delivery.
use Rattle.std.proofs.Common.{◌≡◌, ◌≤◌, ℕ, List, [], ◌∷◌, All, Some, sym, subst}
use Rattle.std.proofs.lemmas.List.Elements.{All-head, All-tail}
use Rattle.lt_arch.specs.declared.limits.TheConstants.{GREATEST_TIME}
use Rattle.lt_arch.specs.State.{ChanState}
use Rattle.lt_arch.specs.Step.{with_delivered}
use Rattle.lt_audit.specs.Audit.{LineState, kept_of, oldest}

abbrev pub IsTime : ℕ → Type 0
IsTime at = at ≤ GREATEST_TIME

pub oldest_timely : (xs : List ℕ) (sent : ℕ) → All IsTime xs → oldest xs ≡ Some sent → IsTime sent
oldest_timely [] sent all is = cc
oldest_timely (x ∷ xs) sent all is = let same : x ≡ sent = cc in subst IsTime same (All-head IsTime x xs all)

pub delivered_timely : (k : ChanState) (xs : List ℕ) → All IsTime k.transit → All IsTime xs → All IsTime (with_delivered k xs).transit
delivered_timely k [] before all = before
delivered_timely k (x ∷ xs) before all = All-tail IsTime x xs all

pub left_timely : (x y : LineState) (sent : ℕ) → All IsTime x.transit → kept_of y ≡ with_delivered (kept_of x) x.transit → oldest y.transit ≡ Some sent → IsTime sent
left_timely x y sent all is first =
    let later : All IsTime (with_delivered (kept_of x) x.transit).transit = delivered_timely (kept_of x) x.transit all all in
    oldest_timely y.transit sent (subst (λ (k : ChanState). All IsTime k.transit) is' later) first
  where
    is' : with_delivered (kept_of x) x.transit ≡ kept_of y
    is' = sym is
