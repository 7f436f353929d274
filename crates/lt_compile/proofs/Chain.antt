-- What the passes give together.
use Rattle.std.proofs.Common.{◌≡◌, ◌∙◌, ◌<◌, ℕ, List, [], ◌∷◌, ◌++◌, Some, Ok, inl, inr, length, get_or, map, refl, sym, ap, subst, arith, append_assoc, append-nil}
use Rattle.std.specs.Prelude.{slice_get}
use Rattle.std.proofs.lemmas.Option.{slice_get_within, slice_get-get_or}
use Rattle.lt_base.specs.declared.value.Value.{Value}
use Rattle.lt_base.specs.declared.value.Cell.{Cell}
use Rattle.lt_base.specs.declared.value.Cell.TheVariants.{Absent}
use Rattle.lt_base.specs.Program.{Function}
use Rattle.lt_base.specs.Meaning.{stream_of}
use Rattle.lt_norm.specs.Flat.{Originated}
use Rattle.lt_timing.specs.Accepts.{Accepts}
use Rattle.lt_place.specs.declared.layout.Layout.{Layout}
use Rattle.lt_place.specs.Layout.{IsLayoutOf, part_of}
use Rattle.lt_place.specs.Legal.{Legal}
use Rattle.lt_net_bench.specs.Starts.{AreReady}
use Rattle.lt_machine.specs.declared.machine.Machine.{Ghosts as Machines}
use Rattle.lt_config.specs.declared.config.Config.{Config}
use Rattle.lt_front.specs.Examined.{ExaminedText}
use Rattle.lt_front.specs.Checked.{CheckedText, IsChecked, examined_part, front_verdict}
use Rattle.lt_front.specs.Flattened.{flat_of}
use Rattle.lt_front.specs.Front.{examine_verdict}
use Rattle.lt_load_fit.specs.Fits.{HasWindowBy, placed_verdict, accepted_verdict, fitting_verdict}
use Rattle.lt_compile.specs.declared.site.Site.{Site}
use Rattle.lt_compile.specs.Sites.{IsSiteOf, site_verdict}
use Rattle.lt_compile.specs.Ready.{MachineIsReady}
use Rattle.lt_compile.specs.Chain.{IsProgramOf, ShowsOnRows, cells_shown, ShowsStreams, IsCompiled, ChainHolds}
use Rattle.lt_compile.proofs.Sited.{passed_both}

-- the checks

program_of : (bytes : List ℕ) (x : ExaminedText) → examine_verdict bytes (Ok x) → IsProgramOf bytes x
unfolding examine_verdict
program_of bytes x (inl wrong) = absurd wrong
program_of bytes x (inr (t, spelled, inl wrong)) = absurd wrong
program_of bytes x (inr (t, spelled, inr (p, named, inl wrong))) = absurd wrong
program_of bytes x (inr (t, spelled, inr (p, named, inr (a, typed, inl wrong)))) = absurd wrong
program_of bytes x (inr (t, spelled, inr (p, named, inr (a, typed, inr (b, clocked, inl wrong))))) = absurd wrong
program_of bytes x (inr (t, spelled, inr (p, named, inr (a, typed, inr (b, clocked, inr (d, causal, (within, same))))))) =
    subst (IsProgramOf bytes) (sym same) (record { spelled = spelled; named = named; typed = typed; clocked = clocked; causal = causal; within = within })

-- the setup

fits : (x : ExaminedText) (setup : Config) → fitting_verdict x setup (Ok setup) → Legal (flat_of x.program) setup.placement × Accepts setup.timing × HasWindowBy setup.pace setup.timing
unfolding fitting_verdict placed_verdict
fits x setup (inl wrong) = absurd wrong
fits x setup (inr (legal, first, second)) =
    let passed = passed_both legal setup second in
    (first.0, subst (λ (k : Config). Accepts k.timing) first.1 passed.0, subst (λ (k : Config). HasWindowBy k.pace k.timing) first.1 passed.1)

-- the steps of a machine

shows_on : (f : Function) (before rows : List (List Value)) (shown : List (List Cell)) (place y : ℕ) → ShowsOnRows f before rows shown → slice_get f.outs place ≡ Some y → stream_of [] f (before ++ rows) y ≡ stream_of [] f before y ++ cells_shown place shown
shows_on f before [] [] place y shows at = ap (λ (rs : List (List Value)). stream_of [] f rs y) (append-nil before) ∙ sym (append-nil (stream_of [] f before y))
shows_on f before [] (outs ∷ shown) place y shows at = absurd shows
shows_on f before (row ∷ rows) [] place y shows at = absurd shows
shows_on f before (row ∷ rows) (outs ∷ shown) place y shows at =
    let low : place < length outs = let inside = slice_get_within f.outs place y at in let size = shows.0 in omega (arith, inside, size) in
    let here : stream_of [] f (before ++ row ∷ []) y ≡ stream_of [] f before y ++ get_or outs place Absent ∷ [] = shows.1 place y (get_or outs place Absent) at (slice_get-get_or outs place Absent low) in
    let rest = shows_on f (before ++ row ∷ []) rows shown place y shows.2 at in
    ap (λ (rs : List (List Value)). stream_of [] f rs y) (sym (append_assoc before (row ∷ []) rows))
    ∙ rest
    ∙ ap (λ (cells : List Cell). cells ++ cells_shown place shown) here
    ∙ append_assoc (stream_of [] f before y) (get_or outs place Absent ∷ []) (cells_shown place shown)

shows_streams : (f : Function) → ShowsStreams f
shows_streams f rows shown place y shows at = shows_on f [] rows shown place y shows at

-- all of it

pub chain : {M : Type 0} (mch : Machines M) → ChainHolds mch
chain {M} mch bytes setup rows c s ms kept front site ready =
    let fit = fits (examined_part c) setup site.0 in
    let laid : IsLayoutOf (flat_of c.program) setup.placement s.layout = subst (IsLayoutOf (flat_of c.program) setup.placement) (sym site.1.2.layout) site.1.1 in
    record {
      program = program_of bytes (examined_part c) front.0;
      streams = kept.keeps.streams;
      legal = subst (λ (f : Originated). Legal f setup.placement) (sym kept.flat) fit.0;
      layout = subst (λ (f : Originated). IsLayoutOf f setup.placement s.layout) (sym kept.flat) laid;
      accepted = fit.1;
      windowed = fit.2;
      site = subst (λ (l : Layout). IsSiteOf l setup s) (sym site.1.2.layout) site.1.2;
      count = ready.count;
      ready = λ n m at. record { stand = ready.stand n m at; unmade = ready.unmade n m at; enough = ready.enough n m at };
      shows = λ n. shows_streams (part_of s.layout n).flat.func;
    }
