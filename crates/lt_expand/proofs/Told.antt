-- Along a solution the output of a copy has the value of the call for which it stands.
use Rattle.std.proofs.Common.{◌≡◌, ℕ, zero, suc, ◌+◌, ◌<◌, ◌≤◌, true, false, List, [], ◌∷◌, length, take, All, None, refl, ap, ◌∙◌, arith}
use Rattle.std.proofs.lemmas.List.Elements.{All-head, All-tail}
use Rattle.lt_base.specs.declared.function.Decl.{Decl}
use Rattle.lt_base.specs.Expression.{Expression, literal, variable, unary, binary, imported, choose, sampled, merged, delayed, follow, arrow, call, Arguments, no_arguments, argument}
use Rattle.lt_base.specs.Program.{Function}
use Rattle.lt_base.specs.Checked.{argument_count, EachUse, EachArgumentUse}
use Rattle.lt_base.specs.Equations.{EquationsIn}
use Rattle.lt_base.specs.Meaning.{ClockPairs, Environment, Row, Callee, clock_of, right_of, entry, present, outer, values_of}
use Rattle.lt_base.specs.Solution.{Solves}
use Rattle.lt_base.specs.Placed.{below, StandsIn}
use Rattle.lt_base.specs.Tells.{AtEach, Tells, ArgumentsTell}
use Rattle.lt_base.proofs.Solution.{and_left}
use Rattle.lt_base.proofs.Lookups.{is_input, left_below}
use Rattle.lt_base.proofs.Tells.{at_each, at_each_map, at_each_two, TellsAt, tells_same, tells_unary, tells_binary, tells_imported, tells_choose, tells_merged, tells_delayed, tells_follow, tells_arrow, tells_lifted, arguments_tell_more, stands_tells, tells_inlined}
use Rattle.lt_expand.specs.Copies.{raise, first_or_zero, Library, Copy, grown, arguments_grown, inlined, arguments_inlined, copies, arguments_copies, input_equations}
use Rattle.lt_expand.proofs.Standing.{Each, Stands}
use Rattle.lt_expand.proofs.Fitting.{Fits, Answering}
use Rattle.lt_expand.proofs.Filled.{each_left, each_right}

pub same_count : (lib : Library) (n : ℕ) (args : Arguments) → argument_count (arguments_inlined lib n args) ≡ argument_count args
same_count lib n no_arguments = refl
same_count lib n (argument e args) = let h = same_count lib (n + grown lib e) args in omega (arith, h)

-- the source of a copy stands in F
pub source_stands : (fs : List Function) (F : Function) (c : Copy) (g n : ℕ) → Fits fs c.source g n → Stands F c → StandsIn F c.source (raise c.from) c.clock
source_stands fs F c g n fits s = record {
  numbers = s.declared.numbers;
  equations = s.rights;
  clocks = λ x e h. s.declared.clocks x (left_below c.source fits.good x e h);
}

pub base_at : (ds : List Decl) (n i : ℕ) → All (λ d. d.clock ≡ []) (take n ds) → i < n → clock_of ds i ≡ []
base_at [] n i a l = refl
base_at (d ∷ ds) zero i a l = absurd (omega arith)
base_at (d ∷ ds) (suc n) zero a l = All-head (λ d. d.clock ≡ []) d (take n ds) a
base_at (d ∷ ds) (suc n) (suc i) a l = base_at ds n i (All-tail (λ d. d.clock ≡ []) d (take n ds) a) (omega arith)

module _ (callee : Callee) (F : Function) (es : List Environment) (rows : List Row) (solves : Solves callee F es rows) where
  -- the inputs of a copy hold its arguments
  inputs_show : (ck : ClockPairs) (m : ℕ) (args : Arguments) (x : ℕ) → EquationsIn F (input_equations m args) → ((i : ℕ) → i < argument_count args → (i + m < length F.decls) × (clock_of F.decls (i + m) ≡ ck)) → x < argument_count args → AtEach (λ past env. present env ck ≡ true → env (x + m) ≡ entry (values_of callee args ck past env) x) es
  inputs_show ck m no_arguments x s d h = absurd (omega arith)
  inputs_show ck m (argument e args) zero s d h =
      let k = d 0 (omega arith) in
      tells_lifted callee F (0 + m) e e ck (ap (right_of F.eqs) (omega arith) ∙ s.0) k.1 k.0 es rows solves (tells_same callee ck e es)
  inputs_show ck m (argument e args) (suc x) s d h =
      at_each_map (λ past env. present env ck ≡ true → env (x + suc m) ≡ entry (values_of callee args ck past env) x) (λ past env. present env ck ≡ true → env (suc x + m) ≡ entry (values_of callee (argument e args) ck past env) (suc x)) (λ past env k p. ap env (omega arith) ∙ k p) es
      (inputs_show ck (suc m) args x s.1 (λ i l. let k = d (suc i) (omega (arith, l)) in (omega (arith, k.0), ap (clock_of F.decls) (omega arith) ∙ k.1)) (omega (arith, h)))

  -- one call
  call_told : (fs : List Function) (g : ℕ) (c : Copy) (args : Arguments) → Answering callee fs c.source g (argument_count args) → Stands F c → argument_count c.inputs ≡ argument_count args → ArgumentsTell callee es c.clock args c.inputs → Tells callee es c.clock (call g args) (variable (first_or_zero c.source.outs + c.from))
  call_told fs g c args a s same tells =
      let h = c.source in
      let fits = a.fits in
      let low : h.n_in ≤ length h.decls = fits.good.inputs in
      let arity : h.n_in ≡ argument_count args = fits.arity in
      let at_input : (i : ℕ) → i < argument_count c.inputs → (i + c.from < length F.decls) × (clock_of F.decls (i + c.from) ≡ c.clock) =
      λ i l.
      let l' : i < length h.decls = omega (arith, l, same, arity, low) in
      (s.declared.numbers i l', s.declared.clocks i l' ∙ ap (λ k. below (raise c.from) k c.clock) (base_at h.decls h.n_in i fits.good.inputs_on_base (omega (arith, l, same, arity)))) in
      let hold : (x : ℕ) → x < length h.decls → right_of h.eqs x ≡ None → AtEach (λ past env. present env c.clock ≡ true → env (x + c.from) ≡ entry (values_of callee args c.clock past env) x) es =
      λ x l none.
      at_each_two (λ past env. present env c.clock ≡ true → env (x + c.from) ≡ entry (values_of callee c.inputs c.clock past env) x) (λ past env. present env c.clock ≡ true → values_of callee c.inputs c.clock past env ≡ values_of callee args c.clock past env) (λ past env. present env c.clock ≡ true → env (x + c.from) ≡ entry (values_of callee args c.clock past env) x) (λ past env p q r. p r ∙ ap (λ row. entry row x) (q r)) es
      (inputs_show c.clock c.from c.inputs x s.inputs at_input (let i = is_input h fits.good x l none in omega (arith, i, same, arity)))
      tells in
      tells_inlined callee [] F h g a.meant (raise c.from) c.clock fits.clocked fits.causal (first_or_zero h.outs) fits.one_out fits.out_declared fits.out_on_base args es rows (stands_tells callee F h (raise c.from) c.clock es (source_stands fs F c g (argument_count args) fits s)) solves hold

  module _ (fs : List Function) (lib : Library) where
    abbrev Use : ℕ → ℕ → Type 0
    Use g n = Answering callee fs (lib g) g n

    mutual
      -- all calls of an expression
      pub told : (e : Expression) (n : ℕ) (ck : ClockPairs) → EachUse Use e → Each (Stands F) (copies lib n ck e) → Tells callee es ck e (inlined lib n e)
      told (literal v) n ck u s = tells_same callee ck (literal v) es
      told (variable x) n ck u s = tells_same callee ck (variable x) es
      told (unary o a) n ck u s = tells_unary callee ck o a (inlined lib n a) es (told a n ck u s)
      told (binary o a b) n ck u s =
          let x = told a n ck u.0 (each_left (Stands F) (copies lib n ck a) _ s) in
          let y = told b (n + grown lib a) ck u.1 (each_right (Stands F) (copies lib n ck a) _ s) in
          tells_binary callee ck o a (inlined lib n a) b (inlined lib (n + grown lib a) b) es x y
      told (imported o a b) n ck u s =
          let x = told a n ck u.0 (each_left (Stands F) (copies lib n ck a) _ s) in
          let y = told b (n + grown lib a) ck u.1 (each_right (Stands F) (copies lib n ck a) _ s) in
          tells_imported callee ck o a (inlined lib n a) b (inlined lib (n + grown lib a) b) es x y
      told (choose c a b) n ck u s =
          let s' = each_right (Stands F) (copies lib n ck c) _ s in
          let x = told c n ck u.0 (each_left (Stands F) (copies lib n ck c) _ s) in
          let y = told a (n + grown lib c) ck u.1 (each_left (Stands F) (copies lib (n + grown lib c) ck a) _ s') in
          let z = told b ((n + grown lib c) + grown lib a) ck u.2 (each_right (Stands F) (copies lib (n + grown lib c) ck a) _ s') in
          tells_choose callee ck c (inlined lib n c) a (inlined lib (n + grown lib c) a) b (inlined lib ((n + grown lib c) + grown lib a) b) es x y z
      told (sampled e c b) n ck u s =
          at_each_map (TellsAt callee (outer ck) e (inlined lib n e)) (TellsAt callee ck (sampled e c b) (sampled (inlined lib n e) c b)) (λ past env h p. h (outer_present env ck p)) es (told e n (outer ck) u s)
        where
          outer_present : (env : Environment) (ck : ClockPairs) → present env ck ≡ true → present env (outer ck) ≡ true
          outer_present env [] p = p
          outer_present env (q ∷ ck) p = and_left _ _ p
      told (merged c a b) n ck u s =
          let x = told a n ((c, true) ∷ ck) u.0 (each_left (Stands F) (copies lib n ((c, true) ∷ ck) a) _ s) in
          let y = told b (n + grown lib a) ((c, false) ∷ ck) u.1 (each_right (Stands F) (copies lib n ((c, true) ∷ ck) a) _ s) in
          tells_merged callee ck c a (inlined lib n a) b (inlined lib (n + grown lib a) b) es x y
      told (delayed v e) n ck u s = tells_delayed callee ck v e (inlined lib n e) es (told e n ck u s)
      told (follow a b) n ck u s =
          let x = told a n ck u.0 (each_left (Stands F) (copies lib n ck a) _ s) in
          let y = told b (n + grown lib a) ck u.1 (each_right (Stands F) (copies lib n ck a) _ s) in
          tells_follow callee ck a (inlined lib n a) b (inlined lib (n + grown lib a) b) es x y
      told (arrow a b) n ck u s =
          let x = told a n ck u.0 (each_left (Stands F) (copies lib n ck a) _ s) in
          let y = told b (n + grown lib a) ck u.1 (each_right (Stands F) (copies lib n ck a) _ s) in
          tells_arrow callee ck a (inlined lib n a) b (inlined lib (n + grown lib a) b) es x y
      told (call g args) n ck u s =
          let c : Copy = record { from = n + arguments_grown lib args; clock = ck; source = lib g; inputs = arguments_inlined lib n args } in
          let same = arguments_told args n ck u.1 (each_left (Stands F) (arguments_copies lib n ck args) _ s) in
          call_told fs g c args u.0 (each_right (Stands F) (arguments_copies lib n ck args) _ s).0 (same_count lib n args) same

      pub arguments_told : (args : Arguments) (n : ℕ) (ck : ClockPairs) → EachArgumentUse Use args → Each (Stands F) (arguments_copies lib n ck args) → ArgumentsTell callee es ck args (arguments_inlined lib n args)
      arguments_told no_arguments n ck u s = at_each (λ past env. present env ck ≡ true → values_of callee no_arguments ck past env ≡ values_of callee no_arguments ck past env) (λ past env _. refl) es
      arguments_told (argument e args) n ck u s =
          arguments_tell_more callee ck e (inlined lib n e) args (arguments_inlined lib (n + grown lib e) args) es
          (told e n ck u.0 (each_left (Stands F) (copies lib n ck e) _ s))
          (arguments_told args (n + grown lib e) ck u.1 (each_right (Stands F) (copies lib n ck e) _ s))
