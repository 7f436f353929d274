-- What the statements of a controller leave whose links lose messages.
use Rattle.std.proofs.Common.{◌≡◌, ℕ, ◌+◌, ◌<◌, ◌^◌, Bool, true, false, List, [], ◌∷◌, refl, sym, ap, ◌∙◌, subst, pos, ℤ}
use Rattle.std.specs.Prelude.{◌&&◌, nat_eq, if◌then◌else◌, ◌+ℤ◌}
use Rattle.std.specs.List.{AllByRecursion}
use Rattle.std.proofs.lemmas.Int.{int_wrap_fits, fits_signed_from_abs}
use mir.Syntax.{w64}
use Rattle.lt_base.specs.Operators.{int_eq, wrap}
use Rattle.lt_arch.specs.declared.event.Deed.{Deed}
use Rattle.lt_arch.specs.declared.event.Deed.TheVariants.{Nothing, Execute, Send}
use Rattle.lt_arch.specs.State.{Phase, Wait, Ready}
use Rattle.lt_arch.specs.Deeds.{phase_after}
use Rattle.lt_c.specs.Tree.{CVariable, slot, did, more, phase, output, has, executions, sendings, newest, answered, posted, tag, Tree, c_var, Statement}
use Rattle.lt_c.specs.Meaning.{Store, c_truth_of, of_truth, value, stored, store_left, WritesStep}
use Rattle.lt_c.proofs.Stores.{truth_back, other_tag, same_self}
use Rattle.lt_c_control.specs.Control.{every, HasPhase}
use Rattle.lt_c_control.specs.declared.posts.Post.{Post}
use Rattle.lt_c_control.specs.Lossy.{new_answer, all_new, all_answers, if_answered, posting, executing_once, sending_next, losing, has_new_data, has_new_answer, is_post, DifferAsPosts, DoesLosing, LosingIsDeed}
use Rattle.lt_c_control.proofs.Pressing.{and_again, and_turned}

new_truth : (m : Store) (js : List ℕ) (e : Tree) → c_truth_of (value m (all_new js e)) ≡ (every (has_new_data m) js && c_truth_of (value m e))
new_truth m [] e = refl
new_truth m (j ∷ js) e =
    truth_back (c_truth_of (of_truth (has_new_data m j)) && c_truth_of (value m (all_new js e)))
    ∙ (λ i. truth_back (has_new_data m j) i && new_truth m js e i)
    ∙ and_again (has_new_data m j) (every (has_new_data m) js) (c_truth_of (value m e))

answers_truth : (m : Store) (js : List ℕ) (e : Tree) → c_truth_of (value m (all_answers js e)) ≡ (every (has_new_answer m) js && c_truth_of (value m e))
answers_truth m [] e = refl
answers_truth m (j ∷ js) e =
    truth_back (c_truth_of (of_truth (has_new_answer m j)) && c_truth_of (value m (all_answers js e)))
    ∙ (λ i. truth_back (has_new_answer m j) i && answers_truth m js e i)
    ∙ and_again (has_new_answer m j) (every (has_new_answer m) js) (c_truth_of (value m e))

answered_all : (js : List ℕ) (s : Statement) (m : Store) → store_left (if_answered js s) m ≡ (if every (has_new_answer m) js then store_left s m else m)
answered_all [] s m = refl
answered_all (j ∷ js) s m =
    ap (λ (b : Bool). if b then store_left s m else m)
    (answers_truth m js (new_answer j) ∙ (λ i. every (has_new_answer m) js && truth_back (has_new_answer m j) i) ∙ and_turned (every (has_new_answer m) js) (has_new_answer m j))

-- ---- what is posted

posting_leaves : (ps : List Post) (m : Store) (p : CVariable) → nat_eq (tag p) 24 ≡ false → store_left (posting ps) m p ≡ m p
posting_leaves [] m p h = refl
posting_leaves (q ∷ ps) m p h =
    posting_leaves ps (stored m (posted q.to_node q.at_place) (m (slot q.from_slot))) p h ∙ other_tag m (posted q.to_node q.at_place) p (m (slot q.from_slot)) h

post_stays : (ps : List Post) (j k : ℕ) → AllByRecursion (λ q. is_post q j k ≡ false) ps → (m : Store) → store_left (posting ps) m (posted j k) ≡ m (posted j k)
post_stays [] j k d m = refl
post_stays (q ∷ ps) j k d m =
    post_stays ps j k d.1 (stored m (posted q.to_node q.at_place) (m (slot q.from_slot)))
    ∙ ap (λ (b : Bool). if b then m (slot q.from_slot) else m (posted j k)) d.0

-- by a store that has the same slots
posts_are : (ps : List Post) → DifferAsPosts ps → (m n : Store) → ((x : ℕ) → n (slot x) ≡ m (slot x)) → AllByRecursion (λ p. store_left (posting ps) n (posted p.to_node p.at_place) ≡ m (slot p.from_slot)) ps
posts_are [] d m n h = tt
posts_are (p ∷ ps) d m n h =
    let next = stored n (posted p.to_node p.at_place) (n (slot p.from_slot)) in (
      post_stays ps p.to_node p.at_place d.0 next
          ∙ (λ i. if same_self p.at_place i && same_self p.to_node i then n (slot p.from_slot) else n (posted p.to_node p.at_place))
          ∙ h p.from_slot,
      posts_are ps d.1 m next h,
    )

one_more : (n : ℕ) → n + 1 < 2 ^ 63 → wrap (pos n +ℤ pos 1) ≡ pos (n + 1)
one_more n l = int_wrap_fits w64 (pos (n + 1)) (fits_signed_from_abs w64 (pos (n + 1)) l)

-- ---- deeds

module _ (ps : List Post) (d : DifferAsPosts ps) (run : Statement) (m : Store) (w : WritesStep run) (count messages : ℕ) (at_count : m executions ≡ pos count) (at_messages : m sendings ≡ pos messages) (few : count + 1 < 2 ^ 63) (less : messages + 1 < 2 ^ 63) where
  abbrev m0 : Store
  m0 = stored m did (pos 0)

  abbrev ran : Store
  ran = store_left run m0

  loses_nothing : (next : Phase) → HasPhase m0 next → DoesLosing ps run m m0 count messages Nothing next
  loses_nothing next h = record {
    deed_is = refl;
    next_is = h;
    executions_are = at_count;
    sendings_are = at_messages;
    slots = λ x. refl;
    outputs = λ y. refl;
    told = λ y. refl;
    posts = λ e. absurd (cc);
    posts_stay = λ e j k. refl;
    newest_stay = λ j. refl;
    answers_stay = λ j. refl;
  }

  loses_execute : DoesLosing ps run m (store_left (executing_once run) m0) count messages Execute Ready
  loses_execute = record {
    deed_is = refl;
    next_is = refl;
    executions_are = ap (λ z. wrap (z +ℤ pos 1)) (w m0 executions refl ∙ at_count) ∙ one_more count few;
    sendings_are = w m0 sendings refl ∙ at_messages;
    slots = λ x. refl;
    outputs = λ y. refl;
    told = λ y. refl;
    posts = λ e. absurd (cc);
    posts_stay = λ e j k. w m0 (posted j k) refl;
    newest_stay = λ j. w m0 (newest j) refl;
    answers_stay = λ j. w m0 (answered j) refl;
  }

  loses_send : DoesLosing ps run m (store_left (sending_next ps) m0) count messages Send Wait
  loses_send = record {
    deed_is = refl;
    next_is = refl;
    executions_are = posting_leaves ps m0 executions refl ∙ at_count;
    sendings_are = ap (λ z. wrap (z +ℤ pos 1)) (posting_leaves ps m0 sendings refl ∙ at_messages) ∙ one_more messages less;
    slots = λ x. posting_leaves ps m0 (slot x) refl;
    outputs = λ y. posting_leaves ps m0 (output y) refl;
    told = λ y. posting_leaves ps m0 (has y) refl;
    posts = λ e. posts_are ps d m m0 (λ x. refl);
    posts_stay = λ e. absurd (cc);
    newest_stay = λ j. posting_leaves ps m0 (newest j) refl;
    answers_stay = λ j. posting_leaves ps m0 (answered j) refl;
  }

  module _ (ins acks : List ℕ) where
    abbrev by_phase : ℤ → Store
    by_phase z =
        if c_truth_of (of_truth (int_eq z (pos 1))) then store_left (if_answered acks (sending_next ps)) m0
        else (if c_truth_of (value m0 (all_new ins (c_var more))) then store_left (executing_once run) m0 else m0)

    ready_leaves : m phase ≡ pos 1 → store_left (losing ins acks ps run) m ≡ (if every (has_new_answer m) acks then store_left (sending_next ps) m0 else m0)
    ready_leaves h = ap by_phase h ∙ answered_all acks (sending_next ps) m0

    wait_leaves : m phase ≡ pos 0 → store_left (losing ins acks ps run) m ≡ (if every (has_new_data m) ins && c_truth_of (m more) then store_left (executing_once run) m0 else m0)
    wait_leaves h = ap by_phase h ∙ ap (λ (b : Bool). if b then store_left (executing_once run) m0 else m0) (new_truth m0 ins (c_var more))

    by_answers : (send execute : ℕ) → HasPhase m Ready → (b : Bool) → let deed : Deed = if b then Send else Nothing in DoesLosing ps run m (if b then store_left (sending_next ps) m0 else m0) count messages deed (phase_after send execute Ready deed)
    by_answers send execute h true = loses_send
    by_answers send execute h false = loses_nothing Ready h

    by_data : (send execute : ℕ) → HasPhase m Wait → (b : Bool) → let deed : Deed = if b then Execute else Nothing in DoesLosing ps run m (if b then store_left (executing_once run) m0 else m0) count messages deed (phase_after send execute Wait deed)
    by_data send execute h true = loses_execute
    by_data send execute h false = loses_nothing Wait h

pub losing_is_deed : LosingIsDeed
losing_is_deed ins acks ps d run send execute count messages m true some_in w a b f g h =
    subst (λ (n : Store). let deed : Deed = if every (has_new_answer m) acks then Send else Nothing in DoesLosing ps run m n count messages deed (phase_after send execute Ready deed))
    (sym (ready_leaves ps d run m w count messages a b f g ins acks h)) (by_answers ps d run m w count messages a b f g ins acks send execute h (every (has_new_answer m) acks))
losing_is_deed ins acks ps d run send execute count messages m false some_in w a b f g h =
    subst (λ (n : Store). let deed : Deed = if every (has_new_data m) ins && c_truth_of (m more) then Execute else Nothing in DoesLosing ps run m n count messages deed (phase_after send execute Wait deed))
    (sym (wait_leaves ps d run m w count messages a b f g ins acks h)) (by_data ps d run m w count messages a b f g ins acks send execute h (every (has_new_data m) ins && c_truth_of (m more)))
