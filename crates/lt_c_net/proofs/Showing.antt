-- The values of messages, and the cells of outputs.
use Rattle.std.proofs.Common.{◌≡◌, ℕ, suc, ◌<◌, List, [], ◌∷◌, ◌++◌, length, map, reverse, Some, sym, ap, ◌∙◌, subst, pos}
use Rattle.std.specs.Prelude.{slice_index_or, nat_lt}
use Rattle.lt_base.specs.declared.value.Value.{Value}
use Rattle.lt_base.specs.Program.{Function}
use Rattle.lt_base.specs.Meaning.{Environment, calls, environments, present, clock_of, cell, stream_of}
use Rattle.lt_base.specs.Solution.{Solves}
use Rattle.lt_base.specs.Typing.{input_types, AllFit}
use Rattle.lt_base.proofs.Solution.{means}
use Rattle.lt_base.proofs.Streams.{stream_next}
use Rattle.lt_arch.specs.declared.event.Deed.TheVariants.{Execute}
use Rattle.lt_arch.specs.Readers.{from_of}
use Rattle.lt_cause.proofs.Places.{order_causal}
use Rattle.lt_place.specs.Layout.{PartGives, part_of, crossing_of}
use Rattle.lt_net_node.specs.Local.{fed_row, upto, firsts, newest, local_value, local_stream}
use Rattle.lt_net_node.specs.Layout.{crossing_place}
use Rattle.lt_net_node.specs.Payloads.{payloads_between, row_at, channel_between}
use Rattle.lt_net_bench.specs.Executes.{ins_of}
use Rattle.lt_net_bench.specs.Bench.{BenchState}
use Rattle.lt_net_bench.proofs.Firsts.{map-upto, map-firsts, reverse-firsts}
use Rattle.lt_net_bench.proofs.NextRun.{rows_more}
use Rattle.lt_step.specs.Code.{StepCode}
use Rattle.lt_step.specs.Compile.{CodeOf, code_of}
use Rattle.lt_step.specs.Run.{after_keeps, at_instant, slots_after, instants}
use Rattle.lt_step.proofs.Keeps.{keeps_leave}
use Rattle.lt_step.proofs.Solved.{solves, own_keeps}
use Rattle.lt_c.specs.Tree.{did}
use Rattle.lt_c.specs.Meaning.{Store, stored, store_left}
use Rattle.lt_c_step.specs.Laws.{shown}
use Rattle.lt_c_step.specs.declared.sources.Source.{Source}
use Rattle.lt_c_step.specs.declared.sources.Output.{Output}
use Rattle.lt_c_step.specs.Part.{before_outputs}
use Rattle.lt_c_step.proofs.Steps.{wide}
use Rattle.lt_c_step.proofs.Executing.{parts_execute}
use Rattle.lt_c_net.specs.Stands.{offered}
use Rattle.lt_c_net.specs.Moves.{IsCodeOfNode, own_row}
use Rattle.lt_c_net.specs.Lists.{rows_of_node, NodeFollows, ActsListed}
use Rattle.lt_c_net.specs.Shows.{ValuesAgree, OutputsAgree}
use Rattle.lt_c_net.proofs.Acting.{feeds_offered}
use Rattle.lt_c_net.proofs.Listed.{takes, ins_is, is_fed}
use Rattle.lt_machine.specs.declared.machine.Machine.{Ghosts as Machines}
use Rattle.lt_arch.specs.declared.controller.Controller.{Ghosts as Controls}

-- step code of a function solves its equations
pub code_solves : (f : Function) (code : StepCode) → CodeOf f code → (rows : List (List Value)) → AllFit (input_types f) (map (map Some) rows) → Solves (calls [] 0) f (instants code (map (map Some) rows)) (map (map Some) rows)
code_solves f code made rows fits =
    subst (λ (c : StepCode). Solves (calls [] 0) f (instants c (map (map Some) rows)) (map (map Some) rows)) (sym made.is)
    (solves f made.good made.flat made.clocked made.order made.is_order (map (map Some) rows) (wide f made.good made.flat made.typed made.clocked made.order made.is_order rows fits))

-- after an instant the slot of a variable on the base clock has the variable's value
pub slot_kept : (f : Function) (code : StepCode) → CodeOf f code → (row : List Value) (rows : List (List Value)) → AllFit (input_types f) (map (map Some) (row ∷ rows)) → (x : ℕ) → x < length f.decls → clock_of f.decls x ≡ [] →
    slots_after code (map (map Some) (row ∷ rows)) x ≡ newest (environments (calls [] 0) f (map (map Some) (row ∷ rows))) x
slot_kept f code made row rows fits x lt base =
    let env : Environment = at_instant code (map Some row) (slots_after code (map (map Some) rows)) in
    let same = means (calls [] 0) [] f (order_causal f made.order made.is_order) made.clocked (map (map Some) (row ∷ rows)) (instants code (map (map Some) (row ∷ rows))) (code_solves f code made (row ∷ rows) fits) in
    leaves f code made env x lt ∙ same.0 x lt (ap (present env) base)
  where
    leaves : (f : Function) (code : StepCode) (made : CodeOf f code) (env : Environment) (x : ℕ) → x < length f.decls → after_keeps code.keeps env x ≡ env x
    leaves f code made env x lt =
        subst (λ (c : StepCode). after_keeps c.keeps env x ≡ env x) (sym made.is)
        (keeps_leave (length f.decls) (length f.decls) (code_of f made.order).keeps (own_keeps f made.good made.flat made.clocked made.order made.is_order) env x lt)

pub values_agree : {C M : Type 0} (ctl : Controls C) (mch : Machines M) → ValuesAgree ctl mch
values_agree ctl mch p st inputs got n k c x code ins acks ss os m whole laid channels s node file at len lt from_is gives =
    let f : Function = (part_of p.layout n).flat.func in
    let ch : ℕ = channel_between p.shape (crossing_of p.layout c).from (crossing_of p.layout c).to in
    let i_is : from_of p.shape ch ≡ n = channels.from c lt ∙ from_is in
    let v : Value = slice_index_or (slice_index_or p.buffers ch []) (crossing_place p.layout c) (crossing_of p.layout c).first in
    let own : local_value (calls [] 0) p.layout (payloads_between p.shape got) (from_of p.shape ch) (row_at (inputs (from_of p.shape ch))) k x ≡ Some v =
    s.buffers ch k (channels.there c lt) (channels.carries c lt) (ap (λ i. length (inputs i)) i_is ∙ len)
    c x lt (sym (channels.from c lt)) (sym (channels.to c lt)) (subst (λ i. PartGives (part_of p.layout i) (crossing_of p.layout c).var x) (sym i_is) gives) in
    let own_n : local_value (calls [] 0) p.layout (payloads_between p.shape got) n (row_at (inputs n)) k x ≡ Some v =
    subst (λ i. local_value (calls [] 0) p.layout (payloads_between p.shape got) i (row_at (inputs i)) k x ≡ Some v) i_is own in
    let F : ℕ → List Value = λ j. fed_row p.layout (payloads_between p.shape got) n (row_at (inputs n) j) j in
    let rows_is : rows_of_node p.layout p.shape inputs got n ≡ F k ∷ upto F k = ap (upto F) len in
    let fit : AllFit (input_types f) (map (map Some) (F k ∷ upto F k)) = subst (AllFit (input_types f)) (ap (upto (λ j. map Some (F j))) len ∙ sym (map-upto (map Some) F (suc k))) (s.fit n node) in
    let given_here : PartGives (part_of p.layout (crossing_of p.layout c).from) (crossing_of p.layout c).var x = subst (λ i. PartGives (part_of p.layout i) (crossing_of p.layout c).var x) (sym from_is) gives in
    let base : clock_of f.decls x ≡ [] = subst (λ i. clock_of (part_of p.layout i).flat.func.decls x ≡ []) from_is (laid.sent_base c x lt given_here) in
    let kept = slot_kept f code file.code_of (F k) (upto F k) fit x (laid.given_declared n (crossing_of p.layout c).var x node gives) base in
    let there : slots_after code (map (map Some) (rows_of_node p.layout p.shape inputs got n)) x ≡ Some v =
    ap (λ rs. slots_after code (map (map Some) rs) x) rows_is ∙ kept
    ∙ ap (λ rs. newest (environments (calls [] 0) f rs) x) (map-upto (map Some) F (suc k)) ∙ own_n in
    at.2.slots x v there

module _ {C M : Type 0} (ctl : Controls C) (mch : Machines M) (p q : BenchState C M) (inputs inputs' got : ℕ → List (List Value)) (n : ℕ) (code : StepCode) (ins acks : List ℕ) (ss : List Source) (os : List Output) (row : List Value) (m : Store)
    (file : IsCodeOfNode p.layout p.shape n code ins acks ss os) (a : ActsListed ctl mch p q inputs inputs' got n row Execute) (at : NodeFollows ctl p inputs got n code m) where
  abbrev f : Function
  f = (part_of p.layout n).flat.func

  abbrev so_far : List (List Value)
  so_far = rows_of_node p.layout p.shape inputs got n

  abbrev F : ℕ → List Value
  F k = fed_row p.layout (payloads_between p.shape got) n (row_at (inputs n) k) k

  abbrev old : List (List Value)
  old = firsts F (length (inputs n))

  abbrev m2 : Store
  m2 = stored (offered (nat_lt (slice_index_or p.executed n 0) p.rows) (own_row p.layout n row) m) did (pos 0)

  abbrev env : Environment
  env = at_instant code (map Some (ins_of p n row)) (slots_after code (map (map Some) so_far))

  turned : map (map Some) so_far ≡ reverse (map (map Some) old)
  turned = map-upto (map Some) F (length (inputs n)) ∙ sym (reverse-firsts (λ k. map Some (F k)) (length (inputs n))) ∙ ap reverse (sym (map-firsts (map Some) F (length (inputs n))))

  shows_cell : (y : ℕ) → y < length f.decls → shown f.decls y (store_left (before_outputs ss code) m2) ≡ cell env (clock_of f.decls y) y
  shows_cell y lt =
      let fed = is_fed ctl mch p q inputs inputs' got n row a in
      (parts_execute f code file.code_of ss os file.differ so_far (ins_of p n row) fed.fit m2 at.2.slots
      (feeds_offered p n row so_far fed (ctl.phase at.0) (slice_index_or p.executed n 0) code m at.2 (nat_lt (slice_index_or p.executed n 0) p.rows) ins acks ss os file)).shows y lt

  pub next_cell : (y : ℕ) → y < length f.decls → local_stream p.layout (payloads_between p.shape got) n (row_at (inputs' n)) (length (inputs' n)) y ≡ local_stream p.layout (payloads_between p.shape got) n (row_at (inputs n)) (length (inputs n)) y ++ shown f.decls y (store_left (before_outputs ss code) m2) ∷ []
  next_cell y lt =
      let fed = is_fed ctl mch p q inputs inputs' got n row a in
      let more : firsts (λ k. fed_row p.layout (payloads_between p.shape got) n (row_at (inputs' n) k) k) (length (inputs' n)) ≡ old ++ ins_of p n row ∷ [] =
      rows_more mch p.layout p.shape p.machines p.executed p.tracks inputs inputs' got a.stood.ran n row (takes ctl mch p q inputs inputs' got n row a)
      ∙ ap (λ r. old ++ r ∷ []) (sym (ins_is ctl mch p q inputs inputs' got n row a)) in
      let sol : Solves (calls [] 0) f (env ∷ instants code (map (map Some) so_far)) (map Some (ins_of p n row) ∷ reverse (map (map Some) old)) =
      subst (λ rs. Solves (calls [] 0) f (env ∷ instants code (map (map Some) so_far)) (map Some (ins_of p n row) ∷ rs)) turned
      (code_solves f code file.code_of (ins_of p n row ∷ so_far) fed.fit) in
      ap (λ rs. stream_of [] f rs y) more
      ∙ stream_next [] f (order_causal f file.code_of.order file.code_of.is_order) file.code_of.clocked old (ins_of p n row) env (instants code (map (map Some) so_far)) sol y lt
      ∙ ap (λ c. stream_of [] f old y ++ c ∷ []) (sym (shows_cell y lt))

pub outputs_agree : {C M : Type 0} (ctl : Controls C) (mch : Machines M) → OutputsAgree ctl mch
outputs_agree ctl mch p q inputs inputs' got n y code ins acks ss os row m file a at lt =
    next_cell ctl mch p q inputs inputs' got n code ins acks ss os row m file a at y lt
