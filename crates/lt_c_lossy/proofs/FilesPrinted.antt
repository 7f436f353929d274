-- The functions of an emitted file whose links lose messages have the statements of the laws.
use Rattle.std.proofs.Common.{◌≡◌, ℕ, List, [], ◌∷◌, length, map, filter, refl, ap, ◌∙◌}
use Rattle.std.specs.List.{count_by, AllByRecursion}
use Rattle.std.proofs.lemmas.List.{length-map}
use Rattle.std.proofs.lemmas.List.Elements.{recursion_from_All}
use Rattle.std.proofs.lemmas.List.Sums.{length-filter}
use Rattle.lt_place_reads.specs.declared.crossing.Crossing.{Crossing}
use Rattle.lt_place.specs.declared.layout.Layout.{Layout}
use Rattle.lt_net_node.specs.Layout.{joins}
use Rattle.lt_c.specs.Tree.{perform}
use Rattle.lt_c_net.specs.Laws.{literals_of, firsts_from}
use Rattle.lt_c_heads.specs.declared.file.Carried.{Carried}
use Rattle.lt_c_heads.specs.declared.file.Peer.{Peer}
use Rattle.lt_c_heads.specs.declared.file.Regime.{Regime}
use Rattle.lt_c_bodies.specs.Acts.{peer_numbers, posts_of, acting}
use Rattle.lt_c_bodies.specs.Starts.{first_values, first_of, first_data, starting_losing, starting_by}
use Rattle.lt_c_bodies.specs.Messages.{delivering_newer, acknowledging_by, delivering_by, messaging}
use Rattle.lt_c_node.specs.NodeOf.{carried, values_between}
use Rattle.lt_c_lossy.specs.Losing.{losing_message}
use Rattle.lt_c_lossy.specs.LosingFiles.{LosingFilesPrint}
use Rattle.lt_c_lossy.proofs.PostsKept.{one_of_all}

-- the first values of what is carried are the literals
firsts_carried : (l : Layout) (xs : List Crossing) → first_values (map (carried l) xs) ≡ map (λ (cr : Crossing). cr.first) xs
firsts_carried l [] = refl
firsts_carried l (x ∷ xs) = ap (λ vs. x.first ∷ vs) (firsts_carried l xs)

data_are : (l : Layout) (n : ℕ) (ps : List Peer) → AllByRecursion (λ p. p.values ≡ values_between l p.number n) ps → first_data ps ≡ firsts_from l.cross n (peer_numbers ps)
data_are l n [] h = refl
data_are l n (p ∷ ps) h =
    let firsts : first_values p.values ≡ literals_of l.cross n p.number = ap first_values h.0 ∙ firsts_carried l (filter (joins p.number n) l.cross) in
    let one : first_of p ≡ record { from_node = p.number; firsts = literals_of l.cross n p.number } = (λ i. record { from_node = p.number; firsts = firsts i }) in
    let rest = data_are l n ps h.1 in
    (λ i. one i ∷ rest i)

how_many : (l : Layout) (i j : ℕ) (vs : List Carried) → vs ≡ values_between l i j → length vs ≡ count_by (joins i j) l.cross
how_many l i j vs is = ap length is ∙ length-map (filter (joins i j) l.cross) (carried l) ∙ length-filter (joins i j) l.cross

pub losing_files_print : LosingFilesPrint
losing_files_print l s t losses n file is = record {
  init =
      ap (λ (r : Regime). starting_by r (first_data file.links.senders) file.links.answerers) is.regime
      ∙ ap (λ ds. starting_losing ds file.links.answerers) (data_are l n file.links.senders (recursion_from_All (λ (p : Peer). p.values ≡ values_between l p.number n) file.links.senders is.links.senders.values));
  acts = λ run. ap (λ (r : Regime). acting r (peer_numbers file.links.senders) file.links.answerers (posts_of file.links.receivers) (perform run)) is.regime;
  deliver = λ i p there.
      ap (λ (r : Regime). delivering_by r p.number (length p.values)) is.regime
      ∙ ap (delivering_newer p.number) (how_many l p.number n p.values (one_of_all (λ (p : Peer). p.values ≡ values_between l p.number n) file.links.senders i p (recursion_from_All (λ (p : Peer). p.values ≡ values_between l p.number n) file.links.senders is.links.senders.values) there));
  acknowledge = λ j. ap (λ (r : Regime). acknowledging_by r j) is.regime;
  sends = λ i p there.
      ap (λ (r : Regime). messaging r p) is.regime
      ∙ ap (losing_message p.number) (how_many l n p.number p.values (one_of_all (λ (p : Peer). p.values ≡ values_between l n p.number) file.links.receivers i p (recursion_from_All (λ (p : Peer). p.values ≡ values_between l n p.number) file.links.receivers is.links.receivers.values) there));
}
