-- The channels of one node among those of all.
use Rattle.std.proofs.Common.{◌≡◌, ◌∙◌, ℕ, zero, suc, ◌<◌, List, [], ◌∷◌, ◌++◌, length, refl, sym, ap, arith, inl, inr, length-append}
use Rattle.std.specs.Prelude.{slice_index_or}
use Rattle.std.proofs.lemmas.Bool.{cases_order}
use Rattle.std.proofs.Math.Seq.{get_or-append_seam}
use Rattle.std.proofs.Math.ListN.{get_or-append}
use Rattle.lt_arch.specs.declared.chan.Chan.{Chan}
use Rattle.lt_link.specs.declared.ports.Ports.{Ports}
use Rattle.lt_link.specs.Ports.{node_ports_of, no_ports, all_ports, HasPorts}

length-all : (cs : List Chan) (count : ℕ) → length (all_ports cs count) ≡ count
length-all cs zero = refl
length-all cs (suc n) = omega (arith, length-append (all_ports cs n) (node_ports_of cs n ∷ []), length-all cs n)

get-all : (cs : List Chan) (count n : ℕ) (d : Ports) → n < count → slice_index_or (all_ports cs count) n d ≡ node_ports_of cs n
get-all cs zero n d lt = absurd (omega (arith, lt))
get-all cs (suc m) n d lt = elim (cases_order n m) [
  | inl e ↦ ap (λ j. slice_index_or (all_ports cs m ++ node_ports_of cs m ∷ []) j d) (e ∙ sym (length-all cs m)) ∙ get_or-append_seam (all_ports cs m) (node_ports_of cs m) [] d ∙ ap (node_ports_of cs) (sym e)
  | inr h ↦ elim h [
    | inl less ↦ get_or-append (all_ports cs m) (node_ports_of cs m ∷ []) d n (omega (arith, less, length-all cs m)) ∙ get-all cs m n d less
    | inr more ↦ absurd (omega (arith, lt, more))
  ]
]

-- the channels of each of the first nodes stand in the table of them all
pub has_ports : (cs : List Chan) (ps : List Ports) (count n : ℕ) → ps ≡ all_ports cs count → n < count → HasPorts cs n ps
has_ports cs ps count n is lt = record {
  there = let e = ap length is ∙ length-all cs count in omega (arith, e, lt);
  are = ap (λ (l : List Ports). slice_index_or l n no_ports) is ∙ get-all cs count n no_ports lt;
}
