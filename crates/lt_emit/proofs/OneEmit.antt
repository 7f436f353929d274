-- An emission leaves one refusal, up to its kind, and refuses as a check does.
use Rattle.std.proofs.Common.{◌≡◌, ◌∙◌, ℕ, Bool, List, Option, Some, None, Ok, Err, refl, sym, ap, subst, inl, inr}
use Rattle.std.specs.Prelude.{bytes_eq, position}
use Rattle.lt_arch.specs.Placement.{node_names}
use Rattle.lt_place.specs.declared.layout.Layout.{Layout}
use Rattle.lt_config.specs.declared.config.Config.{Config}
use Rattle.lt_answer.specs.Answered.{AndThen}
use Rattle.lt_answer.proofs.Decided.{HasOneKind}
use Rattle.lt_front.specs.Examined.{ExaminedText}
use Rattle.lt_compile.specs.declared.site.Site.{Site}
use Rattle.lt_compile.specs.Sites.{site_verdict}
use Rattle.lt_load_fit.specs.declared.fault.CommandFault.{CommandFault}
use Rattle.lt_load_fit.specs.Fits.{fitting_verdict}
use Rattle.lt_load.specs.Loaded.{config_verdict}
use Rattle.lt_load.specs.Setups.{check_verdict, fitted_verdict, with_setup_verdict}
use Rattle.lt_load.proofs.OneLoad.{TellsLimits}
use Rattle.lt_load.proofs.OneCheck.{MergesPlaces, MergesTimings, check_decided, config_once}
use Rattle.lt_emit.specs.declared.fault.EmitFault.{EmitFault}
use Rattle.lt_emit.specs.declared.fault.EmitFault.TheVariants.{Command, NoNode}
use Rattle.lt_emit.specs.Emitted.{emit_verdict, emitted_node_verdict, site_node}
use Rattle.lt_emit.specs.Loading.{load_site_verdict, setup_site_verdict}

module _ (named : List ℕ → Option (List ℕ)) (program config : List ℕ) where
  pub refused_in_check : (e : CommandFault) → load_site_verdict named program config (Err e) → check_verdict named program (Some config) (Err e)
  unfolding load_site_verdict setup_site_verdict with_setup_verdict fitted_verdict
  refused_in_check e (inl p) = inl p
  refused_in_check e (inr p) = inr (p.0, p.1, inl p.2)

  pub refused_at_site : (e : CommandFault) → check_verdict named program (Some config) (Err e) → load_site_verdict named program config (Err e)
  unfolding load_site_verdict setup_site_verdict with_setup_verdict fitted_verdict
  refused_at_site e (inl p) = inl p
  refused_at_site e (inr p) = elim p.2 as (λ _. load_site_verdict named program config (Err e)) [
    | inl q ↦ inr (p.0, p.1, q)
    | inr q ↦ let wrong = q.2 in absurd (cc wrong)
  ]

  -- where there is a site, the check passes
  passed_in_check : (s : Site) → load_site_verdict named program config (Ok s) → (checked : ExaminedText) × check_verdict named program (Some config) (Ok checked)
  unfolding load_site_verdict setup_site_verdict with_setup_verdict fitted_verdict
  passed_in_check s (inl p) = absurd p
  passed_in_check s (inr p) = elim p.2 as (λ _. (checked : ExaminedText) × check_verdict named program (Some config) (Ok checked)) [
    | inl q ↦ absurd q
    | inr q ↦ (p.0, inr (p.0, p.1, inr (q.0, inr (q.0, q.1, q.2.0), refl)))
  ]

  -- a site has the nodes of the file's setup
  setup_of : (s : Site) → load_site_verdict named program config (Ok s) → (setup : Config) × config_verdict (named config) (Ok setup) × (s.layout.names ≡ node_names setup.placement)
  unfolding load_site_verdict setup_site_verdict
  setup_of s (inl p) = absurd p
  setup_of s (inr p) = elim p.2 as (λ _. (setup : Config) × config_verdict (named config) (Ok setup) × (s.layout.names ≡ node_names setup.placement)) [
    | inl q ↦ absurd q
    | inr q ↦ (q.0, q.1, let found = q.2.1 in ap (λ (l : Layout). l.names) found.2.layout ∙ found.1.names)
  ]

  same_names : (s t : Site) → load_site_verdict named program config (Ok s) → load_site_verdict named program config (Ok t) → s.layout.names ≡ t.layout.names
  same_names s t p q =
      let a = setup_of s p in
      let b = setup_of t q in
      a.2 ∙ ap (λ (setup : Config). node_names setup.placement) ((config_once (λ (e : CommandFault). e) (named config)).one_value a.0 b.0 a.1 b.1) ∙ sym b.2

  module _ (header : Bool) (node : List ℕ) {K : Type 0} (kind : EmitFault → K) (along : TellsLimits (λ f. kind (Command f))) (places : MergesPlaces (λ f. kind (Command f))) (timings : MergesTimings (λ f. kind (Command f))) where
    checks : HasOneKind (λ f. kind (Command f)) (check_verdict named program (Some config))
    checks = check_decided (λ f. kind (Command f)) along places timings named program (Some config)

    not_loaded : (e : CommandFault) (s : Site) → load_site_verdict named program config (Err e) → load_site_verdict named program config (Ok s) → ⊥
    not_loaded e s p q = let passed = passed_in_check s q in checks.not_both e passed.0 (refused_in_check e p) passed.1

    one_kind : (e f : EmitFault) → emit_verdict named header program config node (Err e) → emit_verdict named header program config node (Err f) → kind e ≡ kind f
    unfolding emit_verdict
    one_kind e f (inl p) (inl q) = ap kind p.2 ∙ checks.one_kind p.0 q.0 (refused_in_check p.0 p.1) (refused_in_check q.0 q.1) ∙ sym (ap kind q.2)
    one_kind e f (inl p) (inr q) = absurd (not_loaded p.0 q.0 p.1 q.1)
    one_kind e f (inr p) (inl q) = absurd (not_loaded q.0 p.0 q.1 p.1)
    one_kind e f (inr p) (inr q) = ap kind (p.2.1 ∙ sym q.2.1)

    not_both : (e : EmitFault) (text : List ℕ) → emit_verdict named header program config node (Err e) → emit_verdict named header program config node (Ok text) → ⊥
    unfolding emit_verdict
    not_both e text p (inl q) = q
    not_both e text (inl p) (inr q) = not_loaded p.0 q.0 p.1 q.1
    not_both e text (inr p) (inr q) =
        let names = same_names p.0 q.0 p.1 q.1 in
        let missing : None ≡ Some q.2.0 = sym p.2.0 ∙ ap (λ (nodes : List (List ℕ)). position (λ other. bytes_eq other node) nodes) names ∙ q.2.1 in
        cc

    -- right refusals are of one kind, and then no text is right
    pub emit_decided : HasOneKind kind (emit_verdict named header program config node)
    emit_decided = record { one_kind = one_kind; not_both = not_both }

-- the name that is no node's is the one that was asked for
pub same_node : (named : List ℕ → Option (List ℕ)) (header : Bool) (program config node name : List ℕ) → emit_verdict named header program config node (Err (NoNode name)) → NoNode name ≡ NoNode node
unfolding emit_verdict
same_node named header program config node name (inl p) = let wrong = p.2 in absurd (cc wrong)
same_node named header program config node name (inr p) = p.2.1

-- a fault of the files is emitted exactly where a check refuses with it
pub emit_refused : (named : List ℕ → Option (List ℕ)) (header : Bool) (program config node : List ℕ) (e : CommandFault) → emit_verdict named header program config node (Err (Command e)) → check_verdict named program (Some config) (Err e)
unfolding emit_verdict
emit_refused named header program config node e (inl p) =
    let same : Command e ≡ Command p.0 = p.2 in
    let is : p.0 ≡ e = cc in
    refused_in_check named program config e (subst (λ (f : CommandFault). load_site_verdict named program config (Err f)) is p.1)
emit_refused named header program config node e (inr p) = let wrong = p.2.1 in absurd (cc wrong)

pub emit_refuses : (named : List ℕ → Option (List ℕ)) (header : Bool) (program config node : List ℕ) (e : CommandFault) → check_verdict named program (Some config) (Err e) → emit_verdict named header program config node (Err (Command e))
unfolding emit_verdict
emit_refuses named header program config node e p = inl (e, refused_at_site named program config e p, refl)
