-- The placements that are legal.
use Rattle.std.specs.Prelude.{◌≡◌, ◌≢◌, ℕ, ◌<◌, true, Some, []}
use Rattle.lt_base.specs.Expression.{Expression}
use Rattle.lt_base.specs.Meaning.{clock_of, right_of}
use Rattle.lt_base.specs.Dependence.{has, clock_vars}
use Rattle.lt_norm.specs.Flat.{Originated}
use Rattle.lt_place_reads.specs.Origins.{IsMain, variable_count, name_of}
use Rattle.lt_place_reads.specs.Reads.{delayed_reads, direct_reads}
use Rattle.lt_arch.specs.declared.placement.Placement.{Placement}
use Rattle.lt_place.specs.Nodes.{listings, puts, node_of, EachKnown}

-- each variable is on exactly one node; a variable of another node is read only as all that a delay on the base clock delays;
-- and the variables of a clock are on the node of the variable that has it
pub record Legal (f : Originated) (p : Placement) : Type 0 where
  -- the placement puts each variable of `main` on a node once, and lists no other name
  pub once : (x : ℕ) → IsMain f x → puts p (name_of f x) ≡ 1
  pub known : EachKnown f (listings p)
  -- what is read, and the clocks
  pub direct : (x : ℕ) (e : Expression) (y : ℕ) → right_of f.func.eqs x ≡ Some e → has y (direct_reads e) ≡ true → node_of f p y ≡ node_of f p x
  pub slow : (x : ℕ) (e : Expression) (y : ℕ) → right_of f.func.eqs x ≡ Some e → clock_of f.func.decls x ≢ [] → has y (delayed_reads e) ≡ true → node_of f p y ≡ node_of f p x
  pub clocks : (x : ℕ) (y : ℕ) → x < variable_count f → has y (clock_vars (clock_of f.func.decls x)) ≡ true → node_of f p y ≡ node_of f p x
