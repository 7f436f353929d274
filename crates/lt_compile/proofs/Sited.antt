-- The site of a setup, step after step.
use Rattle.std.proofs.Common.{◌≡◌, ◌∙◌, length, Result, Ok, Err, inl, inr, refl, sym, ap, subst, arith}
use Rattle.std.specs.Prelude.{IfOk, IsErrAnd}
use Rattle.lt_base.specs.declared.memory.Or.{Or}
use Rattle.lt_base.specs.declared.memory.Or.TheVariants.{Fault, Memory}
use Rattle.lt_norm.specs.Flat.{Originated}
use Rattle.lt_answer.specs.Answered.{Refuses, Settles}
use Rattle.lt_timing.specs.Accepts.{Accepts}
use Rattle.lt_arch.specs.declared.timing.Timing.{Timing}
use Rattle.lt_place.specs.declared.layout.Layout.{Layout}
use Rattle.lt_place.specs.Layout.{IsLayoutOf, IsPlaced}
use Rattle.lt_arch.specs.Placement.{node_names}
use Rattle.lt_front.specs.Examined.{ExaminedText}
use Rattle.lt_front.specs.Flattened.{flat_of}
use Rattle.lt_config.specs.declared.config.Config.{Config}
use Rattle.lt_arch.specs.declared.pace.Pace.{Pace}
use Rattle.lt_arch.specs.Paced.{FitsPace}
use Rattle.lt_load_fit.specs.declared.fault.CommandFault.{CommandFault}
use Rattle.lt_load_fit.specs.Fits.{HasWindowBy, placed_verdict, timed_verdict, windowed_verdict, accepted_verdict, fitting_verdict}
use Rattle.lt_load_fit.proofs.Settled.{err_settled}
use Rattle.lt_compile.specs.declared.site.Site.{Site}
use Rattle.lt_compile.specs.Sites.{IsSiteOf, IsSited, layout_verdict, site_verdict}

-- a setup that is accepted passes both steps
pub passed_both : (setup accepted : Config) → accepted_verdict setup (Ok accepted) → Accepts setup.timing × HasWindowBy setup.pace setup.timing × (accepted ≡ setup)
unfolding accepted_verdict timed_verdict windowed_verdict
passed_both setup accepted (inl wrong) = absurd wrong
passed_both setup accepted (inr (timed, first, second)) =
    (first.0, subst (λ (c : Config). HasWindowBy c.pace c.timing) first.1 second.0, second.1 ∙ first.1)

module _ (checked : ExaminedText) (setup : Config) where
  -- the placement is not legal

  unplaced : (e : Or CommandFault) → Refuses (layout_verdict checked setup) e → Refuses (site_verdict checked setup) e
  unfolding layout_verdict fitting_verdict placed_verdict
  unplaced (Fault e) refused = inl refused
  unplaced Memory refused = tt

  pub not_placed : (e : Or CommandFault) (r : Result Site (Or CommandFault)) → IsErrAnd r (λ f. f ≡ e) → Refuses (layout_verdict checked setup) e → Settles (site_verdict checked setup) r
  not_placed e r is refused = err_settled (site_verdict checked setup) e r is (unplaced e refused)

  module _ (l : Layout) (laid : layout_verdict checked setup (Ok l)) where
    legal_here : placed_verdict checked setup (Ok setup)
    unfolding layout_verdict placed_verdict
    legal_here = (laid.0, refl)

    pub layout_here : IsLayoutOf (flat_of checked.program) setup.placement l
    unfolding layout_verdict
    layout_here = laid.1

    -- the timing is not accepted

    untimed : (e : Or CommandFault) → Refuses (accepted_verdict setup) e → Refuses (site_verdict checked setup) e
    unfolding fitting_verdict
    untimed (Fault e) refused = inr (setup, legal_here, refused)
    untimed Memory refused = tt

    pub not_timed : (e : Or CommandFault) (r : Result Site (Or CommandFault)) → IsErrAnd r (λ f. f ≡ e) → Refuses (accepted_verdict setup) e → Settles (site_verdict checked setup) r
    not_timed e r is refused = err_settled (site_verdict checked setup) e r is (untimed e refused)

    module _ (timed : Config) (right : accepted_verdict setup (Ok timed)) where
      passed : Accepts setup.timing × HasWindowBy setup.pace setup.timing × (timed ≡ setup)
      passed = passed_both setup timed right

      same_setup : timed ≡ setup
      same_setup = passed.2

      pub names_are : l.names ≡ node_names timed.placement
      names_are = layout_here.names ∙ ap (λ (c : Config). node_names c.placement) (sym same_setup)

      module _ (s : Site) (is : IsSiteOf l timed s) where
        site_here : IsSiteOf l setup s
        site_here = subst (λ (c : Config). IsSiteOf l c s) same_setup is

        -- the site
        pub found : site_verdict checked setup (Ok s)
        unfolding fitting_verdict
        found = (inr (setup, legal_here, subst (λ (c : Config). accepted_verdict setup (Ok c)) same_setup right), (l, layout_here, site_here))

        pub sited : (f : Originated) → IsPlaced f l → IsSited f s
        sited f placed =
            let names : length s.layout.names ≡ length (node_names setup.placement) = ap (λ (m : Layout). length m.names) site_here.layout ∙ ap length layout_here.names in
            let nodes : length s.timing.nodes ≡ length setup.timing.nodes = ap (λ (t : Timing). length t.nodes) site_here.timing in
            let same = setup.same_nodes in
            let few = setup.few in
            record {
              placed = subst (IsPlaced f) (sym site_here.layout) placed;
              paced = record {
                shaped = site_here.shape;
                fits = subst (λ (p : Pace). FitsPace p s.timing) (sym site_here.pace) (subst (λ (t : Timing). FitsPace setup.pace t) (sym site_here.timing) setup.paced);
              };
              accepted = subst Accepts (sym site_here.timing) passed.0;
              windowed = subst (λ (p : Pace). HasWindowBy p s.timing) (sym site_here.pace) (subst (λ (t : Timing). HasWindowBy setup.pace t) (sym site_here.timing) passed.1);
              timed = nodes ∙ same ∙ sym names;
              few = omega (arith, names, same, few);
            }

pub if_site : (f : Originated) (r : Result Site (Or CommandFault)) (e : Or CommandFault) → IsErrAnd r (λ g. g ≡ e) → IfOk r (IsSited f)
if_site f (Ok s) e is = absurd is
if_site f (Err g) e is = tt
