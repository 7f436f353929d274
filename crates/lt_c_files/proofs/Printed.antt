-- The text of a node's file has the trees of the laws as bodies.
use Rattle.std.proofs.Common.{◌≡◌, ℕ, suc, ◌++◌, Bool, true, false, List, [], ◌∷◌, length, map, filter, Some, codes, refl, sym, ap, ◌∙◌}
use Rattle.std.specs.Prelude.{◌||◌, nat_eq}
use Rattle.std.specs.List.{All, count_by, flat_map, list_any}
use Rattle.std.proofs.lemmas.List.{append_assoc, length-map}
use Rattle.std.proofs.lemmas.List.Elements.{All-head, All-tail}
use Rattle.std.proofs.lemmas.List.Sums.{length-filter}
use Rattle.lt_arch.specs.declared.pace.Pace.{Pace}
use Rattle.lt_arch.specs.declared.pace.Pace.TheVariants.{Plain, Lossy, Leader}
use Rattle.lt_arch.specs.declared.shape.Shape.{Shape}
use Rattle.lt_arch.specs.declared.timing.Protocol.{Protocol}
use Rattle.lt_arch.specs.declared.timing.Protocol.TheVariants.{BackPressure, TimeBased}
use Rattle.lt_arch.specs.declared.timing.Timing.{Timing}
use Rattle.lt_arch.specs.Paced.{allowed_of}
use Rattle.lt_arch.specs.Readers.{send_of, execute_of}
use Rattle.lt_place_reads.specs.declared.crossing.Crossing.{Crossing}
use Rattle.lt_place.specs.declared.layout.Layout.{Layout}
use Rattle.lt_net_node.specs.Layout.{joins}
use Rattle.lt_net_bench.proofs.Entries.{same_number}
use Rattle.lt_c.specs.Tree.{slot, sent, message_bit, message, c_var, Statement, assign, both, nothing, perform}
use Rattle.lt_c.specs.Text.{Spelling, spelled, statement_text}
use Rattle.lt_c.specs.HeadText.{file_head_text}
use Rattle.lt_c_step.specs.Part.{feeding, showing}
use Rattle.lt_c_step.specs.Translate.{of_keeps, of_firsts}
use Rattle.lt_c_bodies.specs.Equations.{told_lets}
use Rattle.lt_c_control.specs.declared.posts.Post.{Post}
use Rattle.lt_c_control.specs.Inboxes.{FirstData, starting, delivering, acknowledging}
use Rattle.lt_c_net.specs.Laws.{firsts_from}
use Rattle.lt_c_net.specs.Emitted.{NodeCode, needs_countdown, activation_under, activation_tree, values_tree}
use Rattle.lt_c_heads.specs.declared.file.Carried.{Carried}
use Rattle.lt_c_heads.specs.declared.file.Peer.{Peer}
use Rattle.lt_c_heads.specs.declared.file.NodeFile.{NodeFile}
use Rattle.lt_c_heads.specs.Words.{text_if, title, spelling, indent}
use Rattle.lt_c_heads.specs.Types.{has_items}
use Rattle.lt_c_heads.specs.Heads.{init_head, activate_head, deliver_head, acknowledge_head, message_head}
use Rattle.lt_c_bodies.specs.Starts.{first_values, first_data, starting_by, init_text}
use Rattle.lt_c_bodies.specs.Steps.{execute_text}
use Rattle.lt_c_bodies.specs.Acts.{peer_numbers, posts_of, file_calls, acting, activation, placing_text, deed_text, activate_text}
use Rattle.lt_c_bodies.specs.Messages.{delivering_by, acknowledging_by, giving, messaging, function_text, deliver_text, acknowledge_text, message_text, answer_text}
use Rattle.lt_c_node.specs.NodeText.{opening_text, declarations_text}
use Rattle.lt_c_node.specs.NodeOf.{carried, values_between, protocol_regime, regime_of, IsFileOfNode}
use Rattle.lt_c_files.specs.FileNodes.{slots_to, code_of_file}
use Rattle.lt_c_files.specs.Bodies.{Bodies, step_function, activate_function, noted_if, bodies_of, FilesPrintTrees}
use Rattle.lt_c_files.proofs.Picked.{or_right}
use Rattle.lt_c_files.proofs.Spelling.{told_alike, keeps_alike, firsts_alike}
use Rattle.lt_c_files.proofs.Coded.{slots_found}

-- ---- what each function does, by its controller

plain_regime : (pace : Pace) → ((losses : ℕ) → allowed_of pace ≡ Some losses → ⊥) → (t : Timing) (n : ℕ) → regime_of pace t n ≡ protocol_regime t.protocol t n
plain_regime Plain h t n = refl
plain_regime (Lossy losses) h t n = absurd (h losses refl)
plain_regime (Leader leader) h t n = refl

module _ (t : Timing) (n : ℕ) where
  starting_is : (p : Protocol) (ds : List FirstData) (js : List ℕ) → starting_by (protocol_regime p t n) ds js ≡ starting ds js (needs_countdown p)
  starting_is BackPressure ds js = refl
  starting_is TimeBased ds js = refl

  acting_is : (p : Protocol) (sp : Spelling) (posts : List Post) (node : NodeCode) →
      statement_text sp indent (acting (protocol_regime p t n) node.ins node.acks posts (perform nothing)) ≡ statement_text sp indent (activation_under p (send_of t n) (execute_of t n) node)
  unfolding send_of execute_of
  acting_is BackPressure sp posts node = refl
  acting_is TimeBased sp posts node = refl

  delivering_is : (p : Protocol) (j count : ℕ) → delivering_by (protocol_regime p t n) j count ≡ delivering j count
  delivering_is BackPressure j count = refl
  delivering_is TimeBased j count = refl

  acknowledging_is : (p : Protocol) (f : NodeFile) (head : ℕ → List ℕ) (js : List ℕ) →
      flat_map (λ j. function_text f (head j) (acknowledging_by (protocol_regime p t n) j)) js ≡ flat_map (λ j. function_text f (head j) (acknowledging j)) js
  acknowledging_is BackPressure f head js = refl
  acknowledging_is TimeBased f head js = refl

  messaging_is : (p : Protocol) (peer : Peer) → messaging (protocol_regime p t n) peer ≡ both (assign message_bit (c_var sent)) (giving 0 peer.values)
  messaging_is BackPressure peer = refl
  messaging_is TimeBased peer = refl

giving_is : (k : ℕ) (vs : List Carried) → giving k vs ≡ values_tree k (map (λ (v : Carried). v.from_slot) vs)
giving_is k [] = refl
giving_is k (v ∷ vs) = ap (both (assign (message k) (c_var (slot v.from_slot)))) (giving_is (suc k) vs)

-- ---- comments

fed_note : (b : Bool) (sp : Spelling) (s : Statement) →
    text_if b (codes "    /* what the instant is fed with */\n") ++ statement_text sp indent s ≡ statement_text sp indent (noted_if b (codes "what the instant is fed with") s)
fed_note true sp s = refl
fed_note false sp s = refl

lets_note : (b : Bool) (sp : Spelling) (s : Statement) → text_if b (codes "    /* the equations */\n") ++ statement_text sp indent s ≡ statement_text sp indent (noted_if b (codes "the equations") s)
lets_note true sp s = refl
lets_note false sp s = refl

outputs_note : (b : Bool) (sp : Spelling) (s : Statement) → text_if b (codes "    /* the outputs */\n") ++ statement_text sp indent s ≡ statement_text sp indent (noted_if b (codes "the outputs") s)
outputs_note true sp s = refl
outputs_note false sp s = refl

keeps_note : (b : Bool) (sp : Spelling) (s : Statement) → text_if b (codes "    /* what delays keep */\n") ++ statement_text sp indent s ≡ statement_text sp indent (noted_if b (codes "what delays keep") s)
keeps_note true sp s = refl
keeps_note false sp s = refl

regrouped : (a b c d e : List ℕ) → a ++ (b ++ (c ++ (d ++ e))) ≡ (((a ++ b) ++ c) ++ d) ++ e
regrouped a b c d e = sym (append_assoc ((a ++ b) ++ c) d e ∙ append_assoc (a ++ b) c (d ++ e) ∙ append_assoc a b (c ++ (d ++ e)))

-- ---- texts of all peers

flat_same : (f g : Peer → List ℕ) (P : Peer → Type 0) → ((p : Peer) → P p → f p ≡ g p) → (ps : List Peer) → All P ps → flat_map f ps ≡ flat_map g ps
flat_same f g P one [] h = refl
flat_same f g P one (p ∷ ps) h = let first = one p (All-head P p ps h) in let rest = flat_same f g P one ps (All-tail P p ps h) in (λ i. first i ++ rest i)

-- so where it holds of each by its place among them
flat_among : (f g : Peer → List ℕ) (P : Peer → Type 0) (all : List Peer) → ((p : Peer) → list_any (nat_eq p.number) (peer_numbers all) ≡ true → P p → f p ≡ g p) → (ps : List Peer) →
    ((j : ℕ) → list_any (nat_eq j) (peer_numbers ps) ≡ true → list_any (nat_eq j) (peer_numbers all) ≡ true) → All P ps → flat_map f ps ≡ flat_map g ps
flat_among f g P all one [] among h = refl
flat_among f g P all one (p ∷ ps) among h =
    let there : list_any (nat_eq p.number) (peer_numbers (p ∷ ps)) ≡ true = ap (λ (b : Bool). b || list_any (nat_eq p.number) (peer_numbers ps)) (same_number p.number) in
    let first = one p (among p.number there) (All-head P p ps h) in
    let rest = flat_among f g P all one ps (λ j e. among j (or_right (nat_eq j p.number) (list_any (nat_eq j) (peer_numbers ps)) e)) (All-tail P p ps h) in
    (λ i. first i ++ rest i)

module _ (l : Layout) (n : ℕ) where
  firsts_carried : (xs : List Crossing) → map (λ (v : Carried). v.first) (map (carried l) xs) ≡ map (λ (cr : Crossing). cr.first) xs
  firsts_carried [] = refl
  firsts_carried (x ∷ xs) = ap (λ vs. x.first ∷ vs) (firsts_carried xs)

  data_is : (ps : List Peer) → All (λ (p : Peer). p.values ≡ values_between l p.number n) ps → first_data ps ≡ firsts_from l.cross n (peer_numbers ps)
  data_is [] h = refl
  data_is (p ∷ ps) h =
      let values = ap first_values (All-head (λ (p : Peer). p.values ≡ values_between l p.number n) p ps h) ∙ firsts_carried (filter (joins p.number n) l.cross) in
      let rest = data_is ps (All-tail (λ (p : Peer). p.values ≡ values_between l p.number n) p ps h) in
      (λ i. record { from_node = p.number; firsts = values i } ∷ rest i)

-- ---- the functions of a file

module _ (l : Layout) (s : Shape) (t : Timing) (pace : Pace) (n : ℕ) (f : NodeFile) (loses_nothing : (losses : ℕ) → allowed_of pace ≡ Some losses → ⊥) (is : IsFileOfNode l s t pace n f) where
  abbrev node : NodeCode
  node = code_of_file f

  abbrev b : Bodies
  b = bodies_of f.part.decls l t n node

  abbrev own : List ℕ
  own = title f

  abbrev text : Statement → List ℕ
  text x = statement_text (spelling f) indent x

  regime_is : f.regime ≡ protocol_regime t.protocol t n
  regime_is = is.regime ∙ plain_regime pace loses_nothing t n

  init_is : init_text own f ≡ function_text f (init_head own) b.init
  init_is =
      let head : List ℕ = codes "\n" ++ (init_head own ++ codes "\n{\n") in
      let firsts = firsts_alike (spelled f.part.decls) (spelling f) (λ x. refl) indent f.part.code.keeps in
      let from = data_is l n f.links.senders is.links.senders.values in
      let begin : text (starting_by f.regime (first_data f.links.senders) f.links.answerers) ≡ text (starting (firsts_from l.cross n node.ins) node.acks (needs_countdown t.protocol)) =
      (λ i. text (starting_by (regime_is i) (from i) f.links.answerers)) ∙ ap text (starting_is t n t.protocol (firsts_from l.cross n node.ins) node.acks) in
      (λ i. head ++ (firsts i ++ (begin i ++ codes "}\n")))
      ∙ ap (λ z. head ++ z) (sym (append_assoc (text (of_firsts f.part.code.keeps)) (text (starting (firsts_from l.cross n node.ins) node.acks (needs_countdown t.protocol))) (codes "}\n")))

  step_is : execute_text f ≡ step_function f b.step
  step_is =
      let head : List ℕ = codes "\n/* Executes the next instant. */\nstatic void execute(void)\n{\n" in
      let ss = f.part.sources in
      let os = f.part.outputs in
      let c = f.part.code in
      let fed = fed_note (has_items ss) (spelling f) (feeding 0 ss) in
      let lets = ap (λ z. text_if (has_items c.lets) (codes "    /* the equations */\n") ++ z) (told_alike (spelled f.part.decls) (spelling f) (λ x. refl) indent f.part.decls c.lets) ∙ lets_note (has_items c.lets) (spelling f) (told_lets f.part.decls c.lets) in
      let outputs = outputs_note (has_items os) (spelling f) (showing os) in
      let keeps = ap (λ z. text_if (has_items c.keeps) (codes "    /* what delays keep */\n") ++ z) (keeps_alike (spelled f.part.decls) (spelling f) (λ x. refl) indent c.keeps) ∙ keeps_note (has_items c.keeps) (spelling f) (of_keeps c.keeps) in
      (λ i. head ++ (fed i ++ (lets i ++ (outputs i ++ (keeps i ++ codes "}\n")))))
      ∙ ap (λ z. head ++ z) (regrouped
      (text (noted_if (has_items ss) (codes "what the instant is fed with") (feeding 0 ss)))
      (text (noted_if (has_items c.lets) (codes "the equations") (told_lets f.part.decls c.lets)))
      (text (noted_if (has_items os) (codes "the outputs") (showing os)))
      (text (noted_if (has_items c.keeps) (codes "what delays keep") (of_keeps c.keeps)))
      (codes "}\n"))

  activate_is : activate_text own f ≡ activate_function own f b.activate
  activate_is =
      let acts : text (activation f nothing) ≡ text (activation_tree t n node) =
      (λ i. text (acting (regime_is i) node.ins node.acks (posts_of f.links.receivers) (perform nothing))) ∙ acting_is t n t.protocol (spelling f) (posts_of f.links.receivers) node in
      (λ i. (codes "\n" ++ (activate_head own f ++ codes "\n{\n")) ++ (placing_text f ++ (acts i ++ (deed_text own ++ codes "}\n"))))

  deliver_is : flat_map (deliver_text own f) f.links.senders ≡ flat_map (λ p. function_text f (deliver_head own f.names p) (b.deliver p.number)) f.links.senders
  deliver_is = flat_same (deliver_text own f) (λ p. function_text f (deliver_head own f.names p) (b.deliver p.number)) (λ p. p.values ≡ values_between l p.number n) one f.links.senders is.links.senders.values
    where
      one : (p : Peer) → p.values ≡ values_between l p.number n → deliver_text own f p ≡ function_text f (deliver_head own f.names p) (b.deliver p.number)
      one p h =
          let count : length p.values ≡ count_by (joins p.number n) l.cross = ap length h ∙ length-map (filter (joins p.number n) l.cross) (carried l) ∙ length-filter (joins p.number n) l.cross in
          ap (function_text f (deliver_head own f.names p))
          ((λ i. delivering_by (regime_is i) p.number (count i)) ∙ delivering_is t n t.protocol p.number (count_by (joins p.number n) l.cross))

  acknowledge_is : flat_map (acknowledge_text own f) f.links.answerers ≡ flat_map (λ j. function_text f (acknowledge_head own f.regime f.names j) (b.acknowledge j)) f.links.answerers
  acknowledge_is =
      (λ i. flat_map (λ j. function_text f (acknowledge_head own f.regime f.names j) (acknowledging_by (regime_is i) j)) f.links.answerers)
      ∙ acknowledging_is t n t.protocol f (acknowledge_head own f.regime f.names) f.links.answerers

  message_is : flat_map (message_text own f) f.links.receivers ≡ flat_map (λ p. function_text f (message_head own f.names p) (b.message p.number)) f.links.receivers
  message_is =
      flat_among (message_text own f) (λ p. function_text f (message_head own f.names p) (b.message p.number)) (λ p. p.values ≡ values_between l n p.number) f.links.receivers one f.links.receivers (λ j h. h) is.links.receivers.values
    where
      one : (p : Peer) → list_any (nat_eq p.number) (peer_numbers f.links.receivers) ≡ true → p.values ≡ values_between l n p.number → message_text own f p ≡ function_text f (message_head own f.names p) (b.message p.number)
      one p there h =
          let slots : map (λ (v : Carried). v.from_slot) p.values ≡ slots_to p.number f.links.receivers =
          ap (map (λ (v : Carried). v.from_slot)) h ∙ sym (slots_found l n p.number f.links.receivers there is.links.receivers.values) in
          ap (function_text f (message_head own f.names p))
          ((λ i. messaging (regime_is i) p) ∙ messaging_is t n t.protocol p ∙ ap (both (assign message_bit (c_var sent))) (giving_is 0 p.values ∙ ap (values_tree 0) slots))

pub files_print_trees : FilesPrintTrees
files_print_trees l s t pace n f loses_nothing is =
    let init = init_is l s t pace n f loses_nothing is in
    let step = step_is l s t pace n f loses_nothing is in
    let act = activate_is l s t pace n f loses_nothing is in
    let deliver = deliver_is l s t pace n f loses_nothing is in
    let acknowledge = acknowledge_is l s t pace n f loses_nothing is in
    let message = message_is l s t pace n f loses_nothing is in
    (λ i. opening_text f ++ (file_head_text (file_calls f) ++ (declarations_text (title f) f ++ (init i ++ (step i ++ (act i ++ (deliver i ++ (acknowledge i ++ (message i ++ answer_text (title f) f.regime)))))))))
