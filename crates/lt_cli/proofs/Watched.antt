-- What a watched run shows, from its verdict.
use Rattle.std.proofs.Common.{◌≡◌, ◌∙◌, ◌⊎◌, ◌<◌, ◌≤◌, ℕ, min, List, [], ◌∷◌, length, Option, Some, None, Ok, refl, sym, ap, subst, inl, inr, arith}
use Rattle.std.specs.Prelude.{slice_index_or}
use Rattle.lt_base.specs.declared.value.Cell.{Cell}
use Rattle.lt_lead.specs.Paced.{bound_by}
use Rattle.lt_past.specs.Faults.{IsObserverOf}
use Rattle.lt_past.specs.Observer.{Observing}
use Rattle.lt_load_fit.specs.declared.fault.What.{What}
use Rattle.lt_load_fit.specs.Main.{main_in}
use Rattle.lt_load.specs.Loaded.{whole_verdict}
use Rattle.lt_load.specs.Plan.{Plan, load_verdict}
use Rattle.lt_evaluate.specs.declared.outputs.Outputs.{Outputs}
use Rattle.lt_run.specs.Kinds.{executed_by}
use Rattle.lt_run.specs.Run.{run_along_verdict}
use Rattle.lt_watch.specs.declared.watched.Watched.{Watched}
use Rattle.lt_watch.specs.Judged.{counted_columns, column, IsShortest, IsWatched}
use Rattle.lt_watch.specs.Whole.{Counts}
use Rattle.lt_watch.specs.Watch.{observer_verdict, followed_verdict, plan_watch_verdict, watch_verdict}
use Rattle.lt_watch.proofs.Whole.{instants, of_whole, counts_below, counts_reached, counts_low, outputs_low}
use Rattle.lt_cli.specs.Objects.{Objects, world_of}
use Rattle.lt_cli.specs.Headline.{IsRunAlong}
use Rattle.lt_cli.specs.Taken.{TookText}
use Rattle.lt_text_answers.specs.Texts.{watched_text}
use Rattle.lt_cli.specs.WatchShown.{HasCounted, AreInstants, IsWatchShown}
use Rattle.lt_cli.proofs.Shown.{run_along}

-- the bytes of a whole file
held_bytes : (what : What) (file : Option (List ℕ)) (bytes : List ℕ) → whole_verdict what file (Ok bytes) → file ≡ Some bytes
unfolding whole_verdict
held_bytes what None bytes is = cc
held_bytes what (Some whole) bytes is = ap (λ (b : List ℕ). Some b) (sym is.same)

none_of : (xs : List ℕ) → length xs ≡ 0 → xs ≡ []
none_of [] is = refl
none_of (x ∷ xs) is = absurd (omega (arith, is))

module _ (named : List ℕ → Option (List ℕ)) (program inputs schedule observer : List ℕ) (config : Option (List ℕ)) (old new : Objects) (told : Watched) (text : TookText (watched_text told) old new) where
  module _ (ran : Outputs) (run : IsRunAlong named program inputs schedule config new.fabric ran) (o : Observing) (bytes : List ℕ) (spelled : IsObserverOf 200 (main_in run.plan.checked.program) bytes o) where
    -- an output that counts is one of the layout
    in_layout : (y : ℕ) → Counts o.outs (length run.layout.outs) y → y < length run.layout.outs
    in_layout y counts =
        let same : length run.layout.outs ≡ length (main_in run.plan.checked.program).outs = ap (λ (outs : List ℕ). length outs) run.shows.told.shown.outputs_are in
        counts_low o.outs (length run.layout.outs) (λ k low. subst (λ (m : ℕ). slice_index_or o.outs k 0 < m) (sym same) (outputs_low 200 (main_in run.plan.checked.program) bytes o spelled k low)) y counts

    module _ (n : ℕ) (least : IsShortest (counted_columns o.outs ran.cells) n) where
      abbrev executed : ℕ → ℕ
      executed m = executed_by run.plan.setup.pace run.shape run.plan.setup.timing (length run.plan.inputs.rows) run.events m

      no_more : (m : ℕ) → HasCounted run.layout o.outs m → n ≤ executed m
      no_more m (y, x, counts, within, gives) =
          let shown = run.outputs y m x (in_layout y counts) within gives in
          let cells : Counts o.outs (length ran.cells) y = subst (λ (c : ℕ). Counts o.outs c y) (sym run.shows.told.shown.columns) counts in
          subst (λ (c : ℕ). n ≤ c) shown.count (counts_below o.outs ran.cells n least y cells)

      abbrev Attained : Type 0
      Attained =
          ((run.layout.outs ≡ []) × (n ≡ 0))
          ⊎ ((m : ℕ) × HasCounted run.layout o.outs m × (n ≡ executed m) × (min (bound_by run.plan.setup.pace run.plan.setup.timing m run.shows.horizon) (length run.plan.inputs.rows) ≤ n))

      attained_at : (y : ℕ) → Counts o.outs (length run.layout.outs) y → length (column ran.cells y) ≡ n → Attained
      attained_at y counts is =
          let low = in_layout y counts in
          let home = run.shows.told.shown.home y low in
          let shown = run.outputs y home.0 home.2 low home.1 home.3 in
          inr (
            home.0,
            (y, home.2, counts, home.1, home.3),
            sym is ∙ shown.count,
            subst (λ (c : ℕ). min (bound_by run.plan.setup.pace run.plan.setup.timing home.0 run.shows.horizon) (length run.plan.inputs.rows) ≤ c) is shown.enough,
          )

      attained : ((ran.cells ≡ []) × (n ≡ 0)) ⊎ ((y : ℕ) × Counts o.outs (length ran.cells) y × (length (column ran.cells y) ≡ n)) → Attained
      attained (inl none) = inl (none_of run.layout.outs (sym run.shows.told.shown.columns ∙ ap (λ (cs : List (List Cell)). length cs) none.0), none.1)
      attained (inr (y, counts, is)) = attained_at y (subst (λ (c : ℕ). Counts o.outs c y) run.shows.told.shown.columns counts) is

      are_instants : AreInstants run.layout run.plan.inputs.rows (executed_by run.plan.setup.pace run.shape run.plan.setup.timing (length run.plan.inputs.rows) run.events)
          (λ m. bound_by run.plan.setup.pace run.plan.setup.timing m run.shows.horizon) o.outs n
      are_instants = record { least = no_more; attained = attained (counts_reached o.outs ran.cells n least) }

    shown_by : named observer ≡ Some bytes → IsWatched run.plan.checked.program run.plan.inputs.rows new.fabric o ran.cells told → IsWatchShown named program inputs schedule observer config old new
    shown_by file watched =
        let judged = instants o ran.cells told watched.tells in
        record {
          ran = ran;
          run = run;
          bytes = bytes;
          file = file;
          watching = o;
          spelled = spelled;
          told = told;
          text = text;
          instants = judged.0;
          are_instants = are_instants judged.0 judged.1;
          of_cells = judged.2;
          whole = of_whole run.plan.checked.program run.plan.inputs.rows new.fabric o ran.cells told judged.0 watched judged.1 judged.2;
        }

  module _ (p : Plan) (loaded : load_verdict named program inputs config (Ok p)) where
    ran_shown : (o : Observing) (bytes : List ℕ) → named observer ≡ Some bytes → IsObserverOf 200 (main_in p.checked.program) bytes o → (ran : Outputs) → run_along_verdict new.fabric (named schedule) p (Ok ran)
        → IsWatched p.checked.program p.inputs.rows new.fabric o ran.cells told → IsWatchShown named program inputs schedule observer config old new
    ran_shown o bytes file spelled ran along watched =
        let r = run_along named program inputs schedule config new.fabric ran p loaded along in
        shown_by ran r.0 o bytes (subst (λ (q : Plan). IsObserverOf 200 (main_in q.checked.program) bytes o) (sym r.1) spelled) file
        (subst (λ (q : Plan). IsWatched q.checked.program q.inputs.rows new.fabric o ran.cells told) (sym r.1) watched)

    followed_shown : (o : Observing) (bytes : List ℕ) → named observer ≡ Some bytes → IsObserverOf 200 (main_in p.checked.program) bytes o → followed_verdict (named schedule) (world_of new) p o (Ok told)
        → IsWatchShown named program inputs schedule observer config old new
    unfolding followed_verdict
    followed_shown o bytes file spelled (inl refused) = absurd refused
    followed_shown o bytes file spelled (inr (ran, along, watched)) = ran_shown o bytes file spelled ran along watched

    observer_shown : (o : Observing) → observer_verdict (main_in p.checked.program) (named observer) (Ok o) → followed_verdict (named schedule) (world_of new) p o (Ok told) → IsWatchShown named program inputs schedule observer config old new
    unfolding observer_verdict
    observer_shown o (inl refused) followed = absurd refused
    observer_shown o (inr (bytes, held, spelled)) followed = followed_shown o bytes (held_bytes _ (named observer) bytes held) spelled followed

    plan_shown : plan_watch_verdict named schedule observer (world_of new) p (Ok told) → IsWatchShown named program inputs schedule observer config old new
    unfolding plan_watch_verdict
    plan_shown (inl refused) = absurd refused
    plan_shown (inr (o, observed, followed)) = observer_shown o observed followed

  pub watch_shown : watch_verdict named program inputs schedule observer config (world_of new) (Ok told) → IsWatchShown named program inputs schedule observer config old new
  unfolding watch_verdict
  watch_shown (inl refused) = absurd refused
  watch_shown (inr (p, loaded, watched)) = plan_shown p loaded watched
