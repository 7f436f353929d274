-- What the statements of a time-based controller leave.
use Rattle.std.proofs.Common.{◌≡◌, ℕ, suc, ◌<◌, ◌≤◌, ◌-◌, ◌^◌, Bool, true, false, List, [], refl, sym, ap, ◌∙◌, subst, eqb-true, pos, negsuc, ℤ, arith}
use Rattle.std.specs.Prelude.{◌&&◌, ◌||◌, nat_eq, nat_lt, ◌-ℤ◌, if◌then◌else◌}
use Rattle.std.proofs.lemmas.Int.{int_wrap_fits, fits_signed_from_abs}
use Rattle.std.proofs.lemmas.Bool.Decides.{nat_tests}
use mir.Syntax.{w64}
use Rattle.lt_base.specs.Operators.{int_eq, wrap}
use Rattle.lt_arch.specs.declared.event.Deed.{Deed}
use Rattle.lt_arch.specs.declared.event.Deed.TheVariants.{Nothing, Execute, Send}
use Rattle.lt_arch.specs.State.{Phase, Wait, Ready, First, Sending, Executing}
use Rattle.lt_arch.specs.Deeds.{phase_after}
use Rattle.lt_c.specs.Tree.{did, more, phase, left, Statement, both}
use Rattle.lt_c.specs.Meaning.{Store, c_truth_of, of_truth, value, stored, store_left, WritesStep}
use Rattle.lt_c_control.specs.Control.{is_number, some_data, becomes, counted_down, executing, sending, counting, fresh_data, some, HasPhase, Does, CountingIsDeed}
use Rattle.lt_c_control.proofs.Pressing.{some_truth, or_turned, does_nothing, does_execute}
use Rattle.lt_c.proofs.Stores.{truth_back}

not_below : (n : ℕ) → 1 ≤ n → nat_lt n 1 ≡ false
not_below n l = grind (arith, nat_tests)

less_one : (n : ℕ) → 1 ≤ n → n < 2 ^ 63 → wrap (pos n -ℤ pos 1) ≡ pos (n - 1)
less_one n l h =
    let f : nat_lt n 1 ≡ false = not_below n l in
    let e : (pos n -ℤ pos 1) ≡ pos (n - 1) = ap (λ (b : Bool). if b then negsuc (1 - suc n) else pos (n - 1)) f in
    let small : n - 1 < 2 ^ 63 = omega (arith, h) in
    ap wrap e ∙ int_wrap_fits w64 (pos (n - 1)) (fits_signed_from_abs w64 (pos (n - 1)) small)

module _ (ins : List ℕ) (run : Statement) (send execute : ℕ) (m : Store) (w : WritesStep run) where
  abbrev m0 : Store
  m0 = stored m did (pos 0)

  -- what the branches leave
  abbrev ran : Store
  ran = store_left (both (executing ins run) (becomes left send)) m0

  abbrev told : Store
  told = store_left (both (sending [] (becomes phase 2)) (becomes left execute)) m0

  abbrev counted : Store
  counted = store_left counted_down m0

  executes : Does ins [] run m ran Execute (Sending send)
  executes = let d = does_execute ins [] run m w in record {
    deed_is = refl;
    next_is = (refl, refl);
    slots = d.slots;
    reads = d.reads;
    seens = d.seens;
    bits = d.bits;
    acks_stay = d.acks_stay;
    payloads = d.payloads;
    outputs = d.outputs;
    told = d.told;
    sent_is = d.sent_is;
    executed_is = d.executed_is;
  }

  sends : Does ins [] run m told Send (Executing execute)
  sends = record {
    deed_is = refl;
    next_is = (refl, refl);
    slots = λ x. refl;
    reads = λ j. refl;
    seens = λ j. refl;
    bits = λ j. refl;
    acks_stay = λ j. refl;
    payloads = λ j k. refl;
    outputs = λ y. refl;
    told = λ y. refl;
    sent_is = refl;
    executed_is = refl;
  }

  counts : (next : Phase) → HasPhase counted next → Does ins [] run m counted Nothing next
  counts next h = record {
    deed_is = refl;
    next_is = h;
    slots = λ x. refl;
    reads = λ j. refl;
    seens = λ j. refl;
    bits = λ j. refl;
    acks_stay = λ j. refl;
    payloads = λ j k. refl;
    outputs = λ y. refl;
    told = λ y. refl;
    sent_is = refl;
    executed_is = refl;
  }

  -- by the phase
  abbrev first_branch : Store
  first_branch = if c_truth_of (m more) then ran else m0

  abbrev send_branch : Store
  send_branch = if c_truth_of (value m0 (some_data ins (is_number left 1))) then told else counted

  abbrev execute_branch : Store
  execute_branch = if c_truth_of (of_truth (int_eq (m left) (pos 1))) then first_branch else counted

  abbrev by_phase : ℤ → Store
  by_phase z = if c_truth_of (of_truth (int_eq z (pos 0))) then first_branch else (if c_truth_of (of_truth (int_eq z (pos 1))) then send_branch else execute_branch)

  leaves : store_left (counting send execute ins run) m ≡ by_phase (m phase)
  leaves = refl

  first_by : HasPhase m First → (c : Bool) → let deed : Deed = if c then Execute else Nothing in Does ins [] run m (if c then ran else m0) deed (phase_after send execute First deed)
  first_by h true = executes
  first_by h false = does_nothing ins [] run m w First h

  left_less : (n : ℕ) → 1 ≤ n → n < 2 ^ 63 → m left ≡ pos n → counted left ≡ pos (n - 1)
  left_less n l b h = ap (λ z. wrap (z -ℤ pos 1)) h ∙ less_one n l b

  send_by : (n : ℕ) → 1 ≤ n → n < 2 ^ 63 → HasPhase m (Sending n) → (b : Bool) → let deed : Deed = if b then Send else Nothing in Does ins [] run m (if b then told else counted) deed (phase_after send execute (Sending n) deed)
  send_by n l k h true = sends
  send_by n l k h false = counts (Sending (n - 1)) (h.0, left_less n l k h.1)

  execute_by : (n : ℕ) → 1 ≤ n → n < 2 ^ 63 → HasPhase m (Executing n) → (b c : Bool) → nat_eq n 1 ≡ b → let deed : Deed = if b && c then Execute else Nothing in Does ins [] run m (if b then (if c then ran else m0) else counted) deed (phase_after send execute (Executing n) deed)
  execute_by n l k h true true e = executes
  execute_by n l k h true false e =
      subst (λ (b : Bool). Does ins [] run m m0 Nothing (if b then Executing 1 else Executing (n - 1))) (sym e)
      (does_nothing ins [] run m w (Executing 1) (h.0, h.1 ∙ ap pos (eqb-true n 1 e)))
  execute_by n l k h false c e =
      subst (λ (b : Bool). Does ins [] run m counted Nothing (if b then Executing 1 else Executing (n - 1))) (sym e)
      (counts (Executing (n - 1)) (h.0, left_less n l k h.1))

  first_leaves : HasPhase m First → store_left (counting send execute ins run) m ≡ first_branch
  first_leaves h = leaves ∙ ap by_phase h

  send_leaves : (n : ℕ) → HasPhase m (Sending n) → store_left (counting send execute ins run) m ≡ (if nat_eq n 1 || some (fresh_data m) ins then told else counted)
  send_leaves n h =
      leaves ∙ ap by_phase h.0
      ∙ ap (λ (b : Bool). if b then told else counted) (some_truth m0 ins (is_number left 1) ∙ or_turned (some (fresh_data m) ins) (c_truth_of (of_truth (int_eq (m left) (pos 1))))
      ∙ (λ i. truth_back (int_eq (h.1 i) (pos 1)) i || some (fresh_data m) ins))

  execute_leaves : (n : ℕ) → HasPhase m (Executing n) → store_left (counting send execute ins run) m ≡ (if nat_eq n 1 then first_branch else counted)
  execute_leaves n h =
      leaves ∙ ap by_phase h.0
      ∙ ap (λ (b : Bool). if b then first_branch else counted) (truth_back (int_eq (m left) (pos 1)) ∙ ap (λ z. int_eq z (pos 1)) h.1)

pub counting_is_deed : CountingIsDeed
counting_is_deed ins run send execute m Wait all_in all_ack w c h = elim c [ ]
counting_is_deed ins run send execute m Ready all_in all_ack w c h = elim c [ ]
counting_is_deed ins run send execute m First all_in all_ack w c h =
    subst (λ (n : Store). let deed : Deed = if c_truth_of (m more) then Execute else Nothing in Does ins [] run m n deed (phase_after send execute First deed)) (sym (first_leaves ins run send execute m w h)) (first_by ins run send execute m w h (c_truth_of (m more)))
counting_is_deed ins run send execute m (Sending n) all_in all_ack w c h =
    subst (λ (s : Store). let deed : Deed = if nat_eq n 1 || some (fresh_data m) ins then Send else Nothing in Does ins [] run m s deed (phase_after send execute (Sending n) deed)) (sym (send_leaves ins run send execute m w n h)) (send_by ins run send execute m w n c.0 c.1 h (nat_eq n 1 || some (fresh_data m) ins))
counting_is_deed ins run send execute m (Executing n) all_in all_ack w c h =
    subst (λ (s : Store). let deed : Deed = if nat_eq n 1 && c_truth_of (m more) then Execute else Nothing in Does ins [] run m s deed (phase_after send execute (Executing n) deed)) (sym (execute_leaves ins run send execute m w n h)) (execute_by ins run send execute m w n c.0 c.1 h (nat_eq n 1) (c_truth_of (m more)) refl)
