-- Parts that are fed with the whole program's messages have its streams, and their values cross.
use Rattle.std.proofs.Common.{◌≡◌, ℕ, zero, suc, ◌<◌, ◌≤◌, true, List, [], ◌∷◌, ◌++◌, length, map, take, filter, Some, refl, sym, ap, ◌∙◌, subst, arith}
use Rattle.std.specs.Prelude.{◌&&◌, ◌==◌, slice_index_or, unwrap_or}
use Rattle.std.specs.List.{slice_get}
use Rattle.std.proofs.lemmas.Option.{get_or_from_slice_get, slice_get-get_or}
use Rattle.std.proofs.lemmas.List.{length-map, length-take-le}
use Rattle.lt_base.specs.declared.value.Value.{Value}
use Rattle.lt_base.specs.declared.value.Ty.{Ty}
use Rattle.lt_base.specs.declared.value.Cell.{Cell}
use Rattle.lt_base.specs.declared.function.Decl.{Decl}
use Rattle.lt_base.specs.Value.{ty_of}
use Rattle.lt_base.specs.Meaning.{Environment, calls, cell, clock_of, present, stream_of}
use Rattle.lt_base.specs.Typing.{ty_at, input_types, RowFits, AllFit}
use Rattle.lt_base.specs.Behaviour.{RowsFit}
use Rattle.lt_base.specs.Placed.{seen}
use Rattle.lt_norm.specs.Flat.{Originated}
use Rattle.lt_place_reads.specs.declared.crossing.Crossing.{Crossing}
use Rattle.lt_place.specs.declared.layout.Feed.{Feed}
use Rattle.lt_place.specs.declared.layout.Feed.TheVariants.{Input, Cross}
use Rattle.lt_place.specs.declared.layout.Layout.{Layout}
use Rattle.lt_place.specs.Layout.{IsPlaced, PartGives, no_crossing, part_of, crossing_of}
use Rattle.lt_net_node.specs.Layout.{IsLaidOut, joins, crossing_place, origin_in}
use Rattle.lt_net_node.specs.Local.{Messages, arrived, fed, upto, firsts, newest, runs, local_value, local_stream}
use Rattle.lt_net_node.specs.Payloads.{row_at}
use Rattle.lt_net_bench.specs.Whole.{CarriesOwn, RowsCoverInputs}
use Rattle.lt_net_bench.proofs.CrossedValues.{IsGiven, goes_on_with}
use Rattle.lt_net_bench.proofs.CrossingPlaces.{place_entry}
use Rattle.lt_net_bench.proofs.Entries.{same_number}
use Rattle.lt_net_bench.proofs.FedRows.{map_entry, types_at, row_fits}
use Rattle.lt_net_bench.proofs.Firsts.{get-firsts}
use Rattle.lt_net_bench.proofs.Fitting.{has_inputs, rows_fit_parts}
use Rattle.lt_net_bench.proofs.LaidOut.{part, laid_out}
use Rattle.lt_net_bench.proofs.LocalFronts.{fronts, stream_firsts}
use Rattle.lt_net_bench.proofs.WholeSolves.{agrees}
use Rattle.lt_c_lossy.specs.Crossed.{whole_value, crossing_value, whole_payload, whole_messages, whole_row}

joins_own : (cr : Crossing) → joins cr.from cr.to cr ≡ true
joins_own cr = ap (λ b. b && (cr.to == cr.to)) (same_number cr.from) ∙ same_number cr.to

-- the entry of a crossing among what is made of those between its ends
pub entry_between : {B : Type 0} (l : Layout) (g : Crossing → B) (x : ℕ) → x < length l.cross → slice_get (map g (filter (joins (crossing_of l x).from (crossing_of l x).to) l.cross)) (crossing_place l x) ≡ Some (g (crossing_of l x))
unfolding crossing_of crossing_place
entry_between l g x lt =
    let cr : Crossing = slice_index_or l.cross x no_crossing in
    place_entry (joins cr.from cr.to) g l.cross x cr (slice_get-get_or l.cross x no_crossing lt) (joins_own cr)

-- each of the rows fits
one_fits : (ts : List Ty) (rows : List (List Value)) → AllFit ts (map (map Some) rows) → (k : ℕ) → k < length rows → RowFits ts (map Some (row_at rows k))
one_fits ts [] h k b = absurd (omega (arith, b))
one_fits ts (row ∷ rows) h zero b = h.0
one_fits ts (row ∷ rows) h (suc k) b = one_fits ts rows h.1 k (omega (arith, b))

pub some_same : {A : Type 0} (a b : A) → Some a ≡ Some b → a ≡ b
some_same a b e = cc

module _ (f : Originated) (l : Layout) (placed : IsPlaced f l) (rows : List (List Value)) (fit : RowsFit f.func rows) where
  abbrev pub G : Messages
  G = whole_messages f.func l rows

  pub laid : IsLaidOut f.func l
  laid = laid_out f l placed

  covers : RowsCoverInputs f.func rows
  covers = has_inputs f.func placed.good rows fit

  -- ---- what crosses

  rows_fit_up : (m : ℕ) → m ≤ length rows → AllFit (input_types f.func) (upto (λ k. map Some (row_at rows k)) m)
  rows_fit_up zero le = tt
  rows_fit_up (suc m) le = (one_fits (input_types f.func) rows fit m (omega (arith, le)), rows_fit_up m (omega (arith, le)))

  -- what crosses has a value at each instant, of the literal's type
  given_value : (x k : ℕ) → x < length l.cross → k < length rows → (v : Value) × (whole_value f.func rows (crossing_of l x).var k ≡ Some v) × (ty_of v ≡ ty_of (crossing_of l x).first)
  given_value x k lt b =
      let i : ℕ = (crossing_of l x).from in
      let v : ℕ = (crossing_of l x).var in
      let ib = laid.senders x lt in
      let g = laid.gives x lt in
      let q = part f l placed i ib in
      let own = q.given v g.0 g.1 in
      let declared : v < length f.func.decls = subst (λ z. z < length f.func.decls) own.1 (q.on_node g.0 own.0).0 in
      let type : ty_at f.func.decls v ≡ Some (ty_of (crossing_of l x).first) = ap (ty_at f.func.decls) (sym own.1) ∙ sym (q.types g.0 own.0) ∙ laid.sent_type x g.0 lt g.1 in
      let shown : ℕ → Cell = λ j. cell (newest (runs (calls [] 0) f.func (row_at rows) (suc j))) (clock_of f.func.decls v) v in
      let stream : stream_of [] f.func (firsts (row_at rows) k ++ row_at rows k ∷ []) v ≡ stream_of [] f.func (firsts (row_at rows) k) v ++ shown k ∷ [] =
      stream_firsts [] f.func (row_at rows) (suc k) v ∙ ap (λ cs. cs ++ shown k ∷ []) (sym (stream_firsts [] f.func (row_at rows) k v)) in
      let is : IsGiven (newest (runs (calls [] 0) f.func (row_at rows) (suc k))) v (ty_of (crossing_of l x).first) (shown k) =
      goes_on_with f.func placed.good placed.causal placed.clocked placed.typed (row_at rows) k (rows_fit_up (suc k) (omega (arith, b))) v (ty_of (crossing_of l x).first) (shown k) declared type (laid.vars_on_base x lt) stream in
      (is.value, is.value_is, is.type_is)

  crossing_is : (x k : ℕ) → x < length l.cross → k < length rows → whole_value f.func rows (crossing_of l x).var k ≡ Some (crossing_value f.func rows (crossing_of l x) (suc k))
  crossing_is x k lt b = let g = given_value x k lt b in g.1 ∙ ap (λ o. Some (unwrap_or o (crossing_of l x).first)) (sym g.1)

  crossing_type : (x number : ℕ) → x < length l.cross → number ≤ length rows → ty_of (crossing_value f.func rows (crossing_of l x) number) ≡ ty_of (crossing_of l x).first
  crossing_type x zero lt b = refl
  crossing_type x (suc k) lt b = let g = given_value x k lt (omega (arith, b)) in ap (λ o. ty_of (unwrap_or o (crossing_of l x).first)) g.1 ∙ g.2

  -- an instant sees the value of the message of its number
  pub arrived_is : (x number : ℕ) → x < length l.cross → number ≤ length rows → arrived l G number x ≡ crossing_value f.func rows (crossing_of l x) number
  arrived_is x zero lt b = refl
  arrived_is x (suc k) lt b =
      let i : ℕ = (crossing_of l x).from in
      let j : ℕ = (crossing_of l x).to in
      ap (λ p. slice_index_or p (crossing_place l x) (crossing_of l x).first) (get-firsts (whole_payload f.func l rows i j) (length rows) k [] (omega (arith, b)))
      ∙ get_or_from_slice_get (whole_payload f.func l rows i j k) (crossing_place l x) (crossing_value f.func rows (crossing_of l x) (suc k)) (crossing_of l x).first
      (entry_between l (λ cr. crossing_value f.func rows cr (suc k)) x lt)

  -- ---- the parts

  -- where it is so up to some instant, a sender has there the value that crosses
  own_at : (m : ℕ) → m ≤ length rows → CarriesOwn (calls [] 0) l G (row_at rows) (λ n. m) → (x k v : ℕ) → x < length l.cross → suc k ≤ m → PartGives (part_of l (crossing_of l x).from) (crossing_of l x).var v →
      local_value (calls [] 0) l G (crossing_of l x).from (row_at rows) k v ≡ Some (crossing_value f.func rows (crossing_of l x) (suc k))
  own_at m le carries x k v lt b gives =
      let i : ℕ = (crossing_of l x).from in
      let ib = laid.senders x lt in
      let same = agrees (calls [] 0) f.func l laid G (row_at rows) (λ n. m) (length rows) (λ n nb. le) covers carries i (suc k) ib b in
      let env : Environment = newest (runs (calls [] 0) f.func (row_at rows) (suc k)) in
      let on : present (seen (origin_in (part_of l i)) env) (clock_of (part_of l i).flat.func.decls v) ≡ true = ap (present (seen (origin_in (part_of l i)) env)) (laid.sent_base x v lt gives) in
      sym (same.0 v (laid.given_declared i (crossing_of l x).var v ib gives) on)
      ∙ ap env (laid.given_origin i (crossing_of l x).var v ib gives)
      ∙ crossing_is x k lt (omega (arith, b, le))

  carries_up : (m : ℕ) → m ≤ length rows → CarriesOwn (calls [] 0) l G (row_at rows) (λ n. m)
  carries_up zero le = record { sent_before = λ c k lt e. absurd (omega (arith, e)); own = λ c k x lt e gives. absurd (omega (arith, e)) }
  carries_up (suc m) le = record {
    sent_before = λ c k lt e. omega (arith, e);
    own = λ c k x lt e gives. own_at m (omega (arith, le)) (carries_up m (omega (arith, le))) c k x lt (omega (arith, e)) gives ∙ ap (λ z. Some z) (sym (arrived_is c (suc k) lt (omega (arith, e, le))));
  }

  -- a node has at each instant the value that crosses from it
  pub sent_value : (x k v : ℕ) → x < length l.cross → k < length rows → PartGives (part_of l (crossing_of l x).from) (crossing_of l x).var v →
      local_value (calls [] 0) l G (crossing_of l x).from (row_at rows) k v ≡ Some (crossing_value f.func rows (crossing_of l x) (suc k))
  sent_value x k v lt b gives = own_at (suc k) (omega (arith, b)) (carries_up (suc k) (omega (arith, b))) x k v lt (omega arith) gives

  -- its streams are fronts of the whole program's
  pub part_fronts : (n m x : ℕ) → n < length l.nodes → m ≤ length rows → x < length (part_of l n).flat.func.decls →
      local_stream l G n (row_at rows) m x ≡ take m (stream_of [] f.func rows (origin_in (part_of l n) x))
  part_fronts n m x nb le d = fronts f.func l laid G rows (λ i. m) (λ i ib. le) covers (carries_up m le) n x nb d

  -- ---- what a part is fed with fits it

  module _ (n : ℕ) (nb : n < length l.nodes) where
    abbrev decls : List Decl
    decls = (part_of l n).flat.func.decls

    feed_type : (k x : ℕ) (d : Feed) → k < length rows → slice_get (part_of l n).feeds x ≡ Some d → ty_at decls x ≡ Some (ty_of (fed l G (row_at rows k) k d))
    feed_type k x (Input i) b is = (rows_fit_parts f l placed rows fit n k nb b).typed x i is
    feed_type k x (Cross c) b is =
        let lt = (laid.crosses n x c nb is).0 in
        laid.fed_type n x c nb is ∙ ap (λ t. Some t) (sym (ap ty_of (arrived_is c k lt (omega (arith, b))) ∙ crossing_type c k lt (omega (arith, b))))

    row_fits_part : (k : ℕ) → k < length rows → RowFits (input_types (part_of l n).flat.func) (map Some (whole_row f.func l rows n k))
    row_fits_part k b = row_fits (input_types (part_of l n).flat.func) (whole_row f.func l rows n k) counts
        (λ x t v a e.
        let d = map_entry (fed l G (row_at rows k) k) (part_of l n).feeds x v e in
        some_same (ty_of v) t (ap (λ z. Some (ty_of z)) (sym d.2) ∙ sym (feed_type k x d.0 b d.1) ∙ types_at decls (part_of l n).flat.func.n_in x t a))
      where
        counts : length (input_types (part_of l n).flat.func) ≡ length (whole_row f.func l rows n k)
        counts =
            let q = part_of l n in
            let good = laid.parts_good n nb in
            length-map (take q.flat.func.n_in q.flat.func.decls) (λ (d : Decl). d.ty) ∙ length-take-le q.flat.func.n_in q.flat.func.decls good.inputs ∙ sym (laid.fed n nb) ∙ sym (length-map q.feeds (fed l G (row_at rows k) k))

    pub all_fit : (m : ℕ) → m ≤ length rows → AllFit (input_types (part_of l n).flat.func) (map (map Some) (upto (whole_row f.func l rows n) m))
    all_fit zero le = tt
    all_fit (suc m) le = (row_fits_part m (omega (arith, le)), all_fit m (omega (arith, le)))
