-- Of rows that fit the inputs of `main` a net knows all that a replay needs.
use Rattle.std.proofs.Common.{◌≡◌, ℕ, List, length, sym, ◌∙◌, subst, arith}
use Rattle.lt_base.specs.declared.value.Value.{Value}
use Rattle.lt_base.specs.Behaviour.{RowsFit}
use Rattle.lt_arch.specs.declared.shape.Shape.{Shape}
use Rattle.lt_arch.specs.declared.timing.Timing.{Timing}
use Rattle.lt_arch.specs.Readers.{node_count}
use Rattle.lt_arch.specs.Schedule.{OnePlace}
use Rattle.lt_norm.specs.Flat.{Originated}
use Rattle.lt_place.specs.declared.layout.Layout.{Layout}
use Rattle.lt_place.specs.Layout.{IsPlaced}
use Rattle.lt_net_node.specs.Layout.{IsLaidOut}
use Rattle.lt_net_node.specs.Payloads.{row_at}
use Rattle.lt_net.specs.Net.{TimedBenchState}
use Rattle.lt_net_node.specs.Channels.{HasChannels, FitsLayout}
use Rattle.lt_net_bench.specs.Given.{FitsPart}
use Rattle.lt_net.specs.Loop.{ReplayIsGiven}
use Rattle.lt_net.specs.Starts.{IsMadeOf}
use Rattle.lt_net_bench.proofs.LaidOut.{laid_out}
use Rattle.lt_net_bench.proofs.Fitting.{rows_fit_parts}

module _ (f : Originated) (l : Layout) (placed : IsPlaced f l) where
  -- all that a replay of such rows needs is known
  given_of : {C M : Type 0} (rows : List (List Value)) → RowsFit f.func rows → (net : TimedBenchState C M) → net.layout ≡ l → FitsLayout l net.timing.protocol net.shape → OnePlace net.shape net.timing net.rows → net.rows ≡ length rows → length net.executed ≡ node_count net.shape → ReplayIsGiven net rows
  given_of rows fit net same fits one count executed = record {
    whole = f.func;
    placed = subst (λ z. IsLaidOut f.func z) (sym same) (laid_out f l placed);
    channels = subst (λ z. HasChannels z net.shape) (sym same) fits.channels;
    one_place = one;
    rows = count;
    counts = executed;
    fit = λ n k nb kb. subst (λ z. FitsPart z n (row_at rows k)) (sym same) (rows_fit_parts f l placed rows fit n k (omega (arith, nb, fits.channels.nodes)) kb);
  }

  -- the same of a net that was started
  pub given_by : {C M : Type 0} (inputs : List (List Value)) → RowsFit f.func inputs → (s : Shape) (t : Timing) (rows : ℕ) (ms : List M) (cs : List C) (net : TimedBenchState C M) →
      IsMadeOf l s t rows ms cs net → FitsLayout l t.protocol s → OnePlace s t rows → rows ≡ length inputs → length net.executed ≡ node_count net.shape → ReplayIsGiven net inputs
  given_by inputs fit s t rows ms cs net is fits one count executed =
      given_of inputs fit net is.layout
      (subst (λ (z : Timing). FitsLayout l z.protocol net.shape) (sym is.timing) (subst (λ z. FitsLayout l t.protocol z) (sym is.shape) fits))
      (subst (λ r. OnePlace net.shape net.timing r) (sym is.rows) (subst (λ z. OnePlace net.shape z rows) (sym is.timing) (subst (λ z. OnePlace z t rows) (sym is.shape) one)))
      (is.rows ∙ count) executed
