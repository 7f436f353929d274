-- The placement of the large input is legal.
use Rattle.std.proofs.Common.{◌≡◌, ℕ, zero, suc, ◌<◌, inl, inr, Bool, true, false, ◌||◌, ◌&&◌, not, List, [], ◌∷◌, map, Some, refl, sym, ap, ◌∙◌, subst, arith, eqb-true, eq-eqb}
use Rattle.std.specs.Prelude.{nat_eq, slice_index}
use Rattle.std.specs.List.{AllByRecursion}
use Rattle.std.proofs.lemmas.Bool.{cases_lt}
use Rattle.std.proofs.lemmas.List.Elements.{All-from_recursion}
use Rattle.lt_base.specs.Expression.{Expression}
use Rattle.lt_base.specs.Meaning.{ClockPairs, clock_of, right_of}
use Rattle.lt_base.specs.Dependence.{has, clock_vars}
use Rattle.lt_base.proofs.Lookups.{right_all}
use Rattle.lt_norm.specs.Flat.{Originated}
use Rattle.lt_arch.specs.declared.named.NamedNode.{NamedNode}
use Rattle.lt_arch.specs.declared.nodes.NamedNodes.{NamedNodes}
use Rattle.lt_arch.specs.declared.placement.Placement.{Placement}
use Rattle.lt_arch.specs.declared.placement.Placement.TheVariants.{All as Everything, Named}
use Rattle.lt_arch.specs.declared.timing.Protocol.TheVariants.{BackPressure, TimeBased}
use Rattle.lt_arch.specs.Deeds.{all_below}
use Rattle.lt_place_reads.specs.Origins.{IsMain, name_of}
use Rattle.lt_place_reads.specs.Reads.{direct_reads}
use Rattle.lt_place.specs.Nodes.{Listing, listings_from, times, node_listed, node_of, EachKnown}
use Rattle.lt_place.specs.Legal.{Legal}
use Rattle.lt_timing.specs.Accepts.{Accepts}
use Rattle.lt_front.specs.Flattened.{flat_of}
use Rattle.lt_config.specs.declared.config.Config.{Config}
use Rattle.lt_config.specs.Setup.{Setup}
use Rattle.lt_config.specs.Reading.{placed_of, setup_in}
use Rattle.lt_big_texts.specs.Bounds.{large_nodes, large_setup}
use Rattle.lt_big_accepted.specs.Program.{large_program}
use Rattle.lt_big_accepted.specs.Setup.{SetupFits}
use Rattle.lt_big_accepted.proofs.Checks.{base_clock}
use Rattle.lt_big_accepted.proofs.Flat.{flat_rights, flat_names, flat_form, flat_is}

-- ---- tests of each number, and facts of each element

both_true : (a b : Bool) → (a && b) ≡ true → (a ≡ true) × (b ≡ true)
both_true true b is = (refl, is)
both_true false b is = absurd cc

each_below : (p : ℕ → Bool) (n : ℕ) → all_below p n ≡ true → (k : ℕ) → k < n → p k ≡ true
each_below p zero all k low = absurd (omega (arith, low))
each_below p (suc n) all k low =
    let both = both_true (p n) (all_below p n) all in
    elim (cases_lt k n) [
      | inl less ↦ each_below p n both.1 k less
      | inr le ↦ let same : n ≡ k = omega (arith, low, le) in subst (λ (j : ℕ). p j ≡ true) same both.0
    ]

by_test : (a b : Bool) → a ≡ true → (not a || b) ≡ true → b ≡ true
by_test true b is either = either
by_test false b is either = absurd cc

-- a fact of the first variable that is read, and of the others
read_first : (R : ℕ → Type 0) (x y : ℕ) (later : Bool) → R x → (later ≡ true → R y) → (b : Bool) → nat_eq y x ≡ b → (b || later) ≡ true → R y
read_first R x y later first others true same it = subst R (sym (eqb-true y x same)) first
read_first R x y later first others false other it = others it

-- a fact of each variable that is read
pub each_read : (R : ℕ → Type 0) (xs : List ℕ) → AllByRecursion R xs → (y : ℕ) → has y xs ≡ true → R y
each_read R [] all y is = absurd cc
each_read R (x ∷ xs) all y is = read_first R x y (has y xs) all.0 (λ later. each_read R xs all.1 y later) (nat_eq y x) refl is

-- a fact of each equation
pub each_flat : (P : ℕ × Expression → Type 0) → AllByRecursion P flat_rights → (x : ℕ) (e : Expression) → right_of flat_rights x ≡ Some e → P (x, e)
each_flat P all x e is = right_all P flat_rights (All-from_recursion P flat_rights all) x e is

-- ---- the nodes

abbrev seats : List Listing
seats = listings_from 0 large_nodes

-- the node of each variable
abbrev pub seat : ℕ → ℕ
seat x = slice_index (map (λ o. node_listed seats (name_of flat_form o)) flat_form.origin) x

base : (x : ℕ) → clock_of flat_form.func.decls x ≡ []
base x = base_clock flat_names x

-- ---- names

abbrev once_test : ℕ → Bool
once_test x = not (nat_eq (slice_index flat_form.origin x) x) || nat_eq (times seats (name_of flat_form x)) 1

once_tests : all_below once_test 17 ≡ true
once_tests = refl

once : (x : ℕ) → IsMain flat_form x → times seats (name_of flat_form x) ≡ 1
once x main =
    let tested : once_test x ≡ true = each_below once_test 17 once_tests x main.declared in
    let own : nat_eq (slice_index flat_form.origin x) x ≡ true = eq-eqb (slice_index flat_form.origin x) x main.own in
    eqb-true (times seats (name_of flat_form x)) 1 (by_test (nat_eq (slice_index flat_form.origin x) x) (nat_eq (times seats (name_of flat_form x)) 1) own tested)

main_at : (x : ℕ) → x < 17 → slice_index flat_form.origin x ≡ x → IsMain flat_form x
main_at x low own = record { declared = low; own = own }

known : EachKnown flat_form seats
known = (
  (0, main_at 0 (omega arith) refl, refl),
  (
    (1, main_at 1 (omega arith) refl, refl),
    (
      (2, main_at 2 (omega arith) refl, refl),
      (
        (3, main_at 3 (omega arith) refl, refl),
        (
          (4, main_at 4 (omega arith) refl, refl),
          (
            (5, main_at 5 (omega arith) refl, refl),
            (
              (6, main_at 6 (omega arith) refl, refl),
              (
                (7, main_at 7 (omega arith) refl, refl),
                ((8, main_at 8 (omega arith) refl, refl), tt),
              ),
            ),
          ),
        ),
      ),
    ),
  ),
)

-- ---- reads

-- what an equation reads otherwise than as all that a delay delays is on its own node
abbrev ReadsHere : ℕ × Expression → Type 0
ReadsHere q = (y : ℕ) → has y (direct_reads q.1) ≡ true → seat y ≡ seat q.0

here : (node x : ℕ) → seat x ≡ node → (y : ℕ) → has y (x ∷ []) ≡ true → seat y ≡ node
here node x is = each_read (λ y. seat y ≡ node) (x ∷ []) (is, tt)

nothing : (node : ℕ) → (y : ℕ) → has y [] ≡ true → seat y ≡ node
nothing node = each_read (λ y. seat y ≡ node) [] tt

reads_here : (x : ℕ) (e : Expression) → right_of flat_rights x ≡ Some e → ReadsHere (x, e)
reads_here =
    each_flat ReadsHere (
      each_read (λ y. seat y ≡ 0) (0 ∷ 9 ∷ []) (refl, (refl, tt)),
      (
        here 1 10 refl,
        (
          here 2 11 refl,
          (
            here 3 12 refl,
            (
              here 4 13 refl,
              (
                here 5 14 refl,
                (
                  here 6 15 refl,
                  (
                    here 7 16 refl,
                    (nothing 0, (nothing 1, (nothing 2, (nothing 3, (nothing 4, (nothing 5, (nothing 6, (nothing 7, tt)))))))),
                  ),
                ),
              ),
            ),
          ),
        ),
      ),
    )

-- ---- a placement with these nodes

module _ (named : NamedNodes) (is : named.nodes ≡ large_nodes) where
  seats_are : listings_from 0 named.nodes ≡ seats
  seats_are = ap (λ (nodes : List NamedNode). listings_from 0 nodes) is

  pub seat_is : (x : ℕ) → node_of flat_form (Named named) x ≡ seat x
  seat_is x = ap (λ (ls : List Listing). slice_index (map (λ o. node_listed ls (name_of flat_form o)) flat_form.origin) x) seats_are

  legal : Legal flat_form (Named named)
  legal = record {
    once = λ x main. ap (λ (ls : List Listing). times ls (name_of flat_form x)) seats_are ∙ once x main;
    known = subst (EachKnown flat_form) (sym seats_are) known;
    direct = λ x e y right reads. seat_is y ∙ reads_here x e right y reads ∙ sym (seat_is x);
    slow = λ x e y right slow reads. absurd (slow (base x));
    clocks = λ x y low reads. absurd (no_clock y (subst (λ (ck : ClockPairs). has y (clock_vars ck) ≡ true) (base x) reads));
  }
    where
      no_clock : (y : ℕ) → has y (clock_vars []) ≡ true → ⊥
      no_clock y reads = absurd cc

-- the nodes of a setup that names some
pub named_nodes : (p : Placement) → placed_of p ≡ Some large_nodes → (named : NamedNodes) × (named.nodes ≡ large_nodes) × (p ≡ Named named)
named_nodes Everything is = absurd cc
named_nodes (Named named) is = let same : named.nodes ≡ large_nodes = cc in (named, same, refl)

module _ (c : Config) (is : setup_in c ≡ large_setup) where
  pub placed : placed_of c.placement ≡ Some large_nodes
  placed = ap (λ (s : Setup). s.placed) is

  pub back_pressure : c.timing.protocol ≡ BackPressure
  back_pressure = ap (λ (s : Setup). s.protocol) is

  not_time_based : c.timing.protocol ≡ TimeBased → ⊥
  not_time_based other = let same : BackPressure ≡ TimeBased = sym back_pressure ∙ other in cc

  placement_legal : Legal (flat_of large_program) c.placement
  placement_legal =
      let n = named_nodes c.placement placed in
      subst (λ (f : Originated). Legal f c.placement) (sym flat_is) (subst (λ (p : Placement). Legal flat_form p) (sym n.2) (legal n.0 n.1))

  fits : Legal (flat_of large_program) c.placement × Accepts c.timing
  fits = (placement_legal, λ time_based. absurd (not_time_based time_based))

pub setup_fits : SetupFits
setup_fits c is = fits c is
