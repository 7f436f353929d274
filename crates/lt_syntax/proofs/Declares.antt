-- Declarations, and phases other than a body.
use Rattle.std.proofs.Common.{◌≡◌, ℕ, Bool, List, [], ◌∷◌, ◌++◌, refl, sym, ap, ap₂, ◌∙◌, subst, append_assoc}
use Rattle.std.specs.Global.{Box}
use Rattle.lt_base.specs.declared.value.Ty.{Ty}
use Rattle.lt_tokens.specs.declared.token.Token.{Token}
use Rattle.lt_syntax.specs.declared.tree.DeclText.{DeclText}
use Rattle.lt_syntax.specs.declared.tree.NodeText.{NodeText}
use Rattle.lt_syntax.specs.declared.header.Phase.{Phase}
use Rattle.lt_syntax.specs.declared.header.Phase.TheVariants as phase
use Rattle.lt_syntax.specs.Machine as machine
use Rattle.lt_syntax.specs.Program.{declared}
use Rattle.lt_syntax.specs.Parser.{move, finish, step_on}
use Rattle.lt_syntax.specs.Phases.{parser_phase_of, IsIn}

declared_snoc : (xs : List (List ℕ)) (x : List ℕ) (ty : Ty) (c : List (List ℕ × Bool)) → declared xs ty c ++ record { name = x; ty = ty; clock = c } ∷ [] ≡ declared (xs ++ x ∷ []) ty c
declared_snoc [] x ty c = refl
declared_snoc (y ∷ xs) x ty c = ap (λ z. record { name = y; ty = ty; clock = c } ∷ z) (declared_snoc xs x ty c)

-- one more declaration
pub declare_more : (old d0 d1 : List DeclText) (xs : List (List ℕ)) (x : List ℕ) (ty : Ty) (c c' : List (List ℕ × Bool)) → d0 ≡ old ++ declared xs ty c → c' ≡ c → d1 ≡ d0 ++ record { name = x; ty = ty; clock = c' } ∷ [] → d1 ≡ old ++ declared (xs ++ x ∷ []) ty c
declare_more old d0 d1 xs x ty c c' p q r =
    r ∙ ap₂ (λ a b. a ++ record { name = x; ty = ty; clock = b } ∷ []) p q
    ∙ append_assoc old (declared xs ty c) (record { name = x; ty = ty; clock = c } ∷ [])
    ∙ ap (λ z. old ++ z) (declared_snoc xs x ty c)

-- where no equation may begin or goes on, a token only moves on
pub elsewhere : (p : Phase) (fs : List machine.Frame) (m : machine.Mode) → ((n : Box NodeText) (x : List ℕ) → p ≡ phase.In n x → ⊥) → ((n : Box NodeText) → p ≡ phase.Body n → ⊥) → (done : List NodeText) (t : Token) → finish done (move 200 (parser_phase_of p [] machine.Want) t) ≡ step_on 200 done (parser_phase_of p fs m) t
elsewhere (phase.In n x) fs m g h done t = absurd (g n x refl)
elsewhere (phase.Body n) fs m g h done t = absurd (h n refl)
elsewhere phase.Idle fs m g h done t = refl
elsewhere phase.Told fs m g h done t = refl
elsewhere phase.WantNode fs m g h done t = refl
elsewhere (phase.HasNode x) fs m g h done t = refl
elsewhere (phase.Opened n) fs m g h done t = refl
elsewhere (phase.WantName n s xs) fs m g h done t = refl
elsewhere (phase.HasName n s xs) fs m g h done t = refl
elsewhere (phase.WantType n s xs) fs m g h done t = refl
elsewhere (phase.HasGroup n s xs ty c) fs m g h done t = refl
elsewhere (phase.WantPolarity n s xs ty c) fs m g h done t = refl
elsewhere (phase.WantVariable n s xs ty c) fs m g h done t = refl
elsewhere (phase.HasIns n) fs m g h done t = refl
elsewhere (phase.Returning n) fs m g h done t = refl
elsewhere (phase.HasOuts n) fs m g h done t = refl
elsewhere (phase.HasHead n) fs m g h done t = refl
elsewhere (phase.HasLocals n) fs m g h done t = refl
elsewhere (phase.HasLeft n x) fs m g h done t = refl

-- no right side of an equation is begun in an equal phase
pub not_in : (p q : Phase) → p ≡ q → (IsIn q → ⊥) → (n : Box NodeText) (x : List ℕ) → p ≡ phase.In n x → ⊥
not_in p q e h n x f = h (subst IsIn (sym f ∙ e) tt)
