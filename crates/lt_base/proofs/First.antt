-- The first instant of a clock: `a -> b` and `a fby b` by a flag, and the flag by a delay.
use Rattle.std.proofs.Common.{◌≡◌, Bool, true, false, List, [], ◌∷◌, Option, Some, refl, ap, ◌∙◌}
use Rattle.std.specs.Prelude.{◌||◌, not, if◌then◌else◌}
use Rattle.lt_base.specs.declared.value.Value.{Value}
use Rattle.lt_base.specs.declared.value.Value.TheVariants.{Bool as Truth}
use Rattle.lt_base.specs.Expression.{Expression, literal, choose, delayed, follow, arrow}
use Rattle.lt_base.specs.Meaning.{ClockPairs, Environment, Callee, present, pick, latest, was_present, value_of}

-- `true fby false`
abbrev pub first_flag : Expression
first_flag = delayed (Truth true) (literal (Truth false))

-- the start counts only where the clock was never present
pub latest_start : (ck : ClockPairs) (v w : Option Value) (f : List Environment → Environment → Option Value) (past : List Environment) → latest ck v f past ≡ (if was_present ck past then latest ck w f past else v)
latest_start ck v w f [] = refl
latest_start ck v w f (env ∷ past) =
    let go : (t : Bool) → (if t then f past env else latest ck v f past) ≡ (if t || was_present ck past then (if t then f past env else latest ck w f past) else v) =
    elim [ true ↦ refl | false ↦ latest_start ck v w f past ] in
    go (present env ck)

module _ (callee : Callee) (ck : ClockPairs) (past : List Environment) (cur : Environment) where
  latest_always : (past : List Environment) (v w : Value) → latest ck (Some v) (λ _ _. Some w) past ≡ (if was_present ck past then Some w else Some v)
  latest_always [] v w = refl
  latest_always (env ∷ past) v w =
      let go : (t : Bool) → (if t then Some w else latest ck (Some v) (λ _ _. Some w) past) ≡ (if t || was_present ck past then Some w else Some v) =
      elim [ true ↦ refl | false ↦ latest_always past v w ] in
      go (present env ck)

  -- the flag is true at the clock's first instant and false afterwards
  pub first_flag_is : value_of callee first_flag ck past cur ≡ Some (Truth (not (was_present ck past)))
  first_flag_is =
      let go : (t : Bool) → ◌≡◌ {A = Option Value} (if t then Some (Truth false) else Some (Truth true)) (Some (Truth (not t))) = elim [ true ↦ refl | false ↦ refl ] in
      latest_always past (Truth true) (Truth false) ∙ go (was_present ck past)

  pick_not : (t : Bool) (a b : Option Value) → pick (Some (Truth (not t))) a b ≡ (if t then b else a)
  pick_not true a b = refl
  pick_not false a b = refl

  -- `a -> b` is a where the flag is true and else b
  pub arrow_by_flag : (a b : Expression) → value_of callee (choose first_flag a b) ck past cur ≡ value_of callee (arrow a b) ck past cur
  arrow_by_flag a b =
      ap (λ c. pick c (value_of callee a ck past cur) (value_of callee b ck past cur)) first_flag_is
      ∙ pick_not (was_present ck past) (value_of callee a ck past cur) (value_of callee b ck past cur)

  -- `a fby b` is `a -> (v fby b)`, whatever v is
  pub follow_by_arrow : (v : Value) (a b : Expression) → value_of callee (follow a b) ck past cur ≡ value_of callee (arrow a (delayed v b)) ck past cur
  follow_by_arrow v a b = latest_start ck (value_of callee a ck past cur) (Some v) (value_of callee b ck) past
