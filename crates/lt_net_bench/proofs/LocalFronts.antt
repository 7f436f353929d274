-- Local streams are fronts of the streams of the whole.
use Rattle.std.proofs.Common.{◌≡◌, ℕ, zero, suc, ◌+◌, ◌-◌, ◌<◌, ◌≤◌, List, [], ◌∷◌, length, map, reverse, take, Some, None, refl, sym, ap, ◌∙◌, arith}
use Rattle.std.specs.Prelude.{slice_index_or, if◌then◌else◌}
use Rattle.lt_base.specs.declared.value.Value.{Value}
use Rattle.lt_base.specs.declared.value.Cell.TheVariants.{Absent}
use Rattle.lt_base.specs.Program.{Function}
use Rattle.lt_base.specs.Meaning.{ClockPairs, Environment, Callee, clock_of, right_of, present, environments, calls, here, cell, stream_of}
use Rattle.lt_base.specs.Placed.{below, seen, thinned}
use Rattle.lt_base.proofs.Placed.{present_below}
use Rattle.lt_base.proofs.Streams.{cells_same}
use Rattle.lt_place.specs.declared.layout.Layout.{Layout}
use Rattle.lt_net_node.specs.Layout.{IsLaidOut, origin_in}
use Rattle.lt_place.specs.Layout.{part_of}
use Rattle.lt_net_node.specs.Local.{Messages, fed_row, upto, firsts, runs, local_runs, local_stream, newest}
use Rattle.lt_net_bench.specs.Whole.{CarriesOwn, Fronts}
use Rattle.lt_net_bench.proofs.Firsts.{map-firsts, reverse-firsts, reverse-upto, take-firsts, firsts-list, take_all, firsts-same, upto-same}
use Rattle.lt_net_bench.proofs.WholeSolves.{agrees}

-- the rows of a run, newest first
rows_back : (rows : ℕ → List Value) (m : ℕ) → reverse (map (map Some) (firsts rows m)) ≡ upto (λ k. map Some (rows k)) m
rows_back rows m = ap reverse (map-firsts (map Some) rows m) ∙ reverse-firsts (λ k. map Some (rows k)) m

pub stream_is_run : (fs : List Function) (f : Function) (rows : ℕ → List Value) (m x : ℕ) →
    stream_of fs f (firsts rows m) x ≡ reverse (map (λ env. cell env (clock_of f.decls x) x) (runs (calls fs (length fs)) f rows m))
stream_is_run fs f rows m x =
    ap (λ rs. reverse (map (λ env. cell env (clock_of f.decls x) x) (environments (calls fs (length fs)) f rs))) (rows_back rows m)

-- a run as a sequence
run_cells : (callee : Callee) (f : Function) (rows : ℕ → List Value) (m x : ℕ) →
    map (λ env. cell env (clock_of f.decls x) x) (runs callee f rows m) ≡ upto (λ k. cell (newest (runs callee f rows (suc k))) (clock_of f.decls x) x) m
run_cells callee f rows zero x = refl
run_cells callee f rows (suc m) x = ap (λ r. cell (newest (runs callee f rows (suc m))) (clock_of f.decls x) x ∷ r) (run_cells callee f rows m x)

-- the entry of a stream at each instant
pub stream_firsts : (fs : List Function) (f : Function) (rows : ℕ → List Value) (m x : ℕ) →
    stream_of fs f (firsts rows m) x ≡ firsts (λ k. cell (newest (runs (calls fs (length fs)) f rows (suc k))) (clock_of f.decls x) x) m
stream_firsts fs f rows m x = stream_is_run fs f rows m x ∙ ap reverse (run_cells (calls fs (length fs)) f rows m x) ∙ reverse-upto _ m

-- a stream on fewer rows is a front of it
pub stream_front : (fs : List Function) (f : Function) (rows : ℕ → List Value) (m d x : ℕ) →
    take m (stream_of fs f (firsts rows (m + d)) x) ≡ stream_of fs f (firsts rows m) x
stream_front fs f rows m d x =
    ap (take m) (stream_firsts fs f rows (m + d) x) ∙ take-firsts _ m d ∙ sym (stream_firsts fs f rows m x)

-- the cells of a variable under another number
cells_seen : (r : ℕ → ℕ) (k : ClockPairs) (x : ℕ) (es : List Environment) → map (λ env. cell env k x) (thinned r [] es) ≡ map (λ env. cell env (below r k []) (r x)) es
cells_seen r k x [] = refl
cells_seen r k x (env ∷ es) =
    let e : present env (below r k []) ≡ present (seen r env) k = present_below r env k [] in
    λ i. (if sym e i then here (env (r x)) else Absent) ∷ cells_seen r k x es i

module _ (f : Function) (l : Layout) (layout : IsLaidOut f l)
    (got : Messages) (rows : ℕ → List Value) (executed : ℕ → ℕ)
    (total : ℕ) (within : (n : ℕ) → n < length l.nodes → executed n ≤ total)
    (inputs : (k i : ℕ) → k < total → i < length f.decls → right_of f.eqs i ≡ None → i < length (rows k))
    (carries : CarriesOwn (calls [] 0) l got rows executed) where
  -- what a node computed is the front of the stream of the whole
  pub local_is_whole : (n m x : ℕ) → n < length l.nodes → m ≤ executed n → x < length (part_of l n).flat.func.decls →
      local_stream l got n rows m x ≡ stream_of [] f (firsts rows m) (origin_in (part_of l n) x)
  local_is_whole n m x b e d =
      let p = part_of l n in
      let r = origin_in p in
      let k = clock_of p.flat.func.decls x in
      let same = agrees (calls [] 0) f l layout got rows executed total within inputs carries n m b e in
      stream_is_run [] p.flat.func (λ k. fed_row l got n (rows k) k) m x
      ∙ ap reverse (sym (cells_same p.flat.func.decls k x refl d ((layout.parts_clocked n b).clocks x) _ _ same)
      ∙ cells_seen r k x (runs (calls [] 0) f rows m)
      ∙ ap (λ ck. map (λ env. cell env ck (r x)) (runs (calls [] 0) f rows m)) (sym (layout.clocks n x b d)))
      ∙ sym (stream_is_run [] f rows m (r x))

  pub local_is_front : (n m d x : ℕ) → n < length l.nodes → m ≤ executed n → x < length (part_of l n).flat.func.decls →
      local_stream l got n rows m x ≡ take m (stream_of [] f (firsts rows (m + d)) (origin_in (part_of l n) x))
  local_is_front n m d x b e dx = local_is_whole n m x b e dx ∙ sym (stream_front [] f rows m d (origin_in (part_of l n) x))

-- the same on a list of rows
pub fronts : Fronts
fronts f l layout got rows executed within inputs carries n x b d =
    let at : ℕ → List Value = λ k. slice_index_or rows k [] in
    let all : firsts at (length rows) ≡ rows = firsts-list [] rows (length rows) (omega arith) ∙ take_all rows (length rows) refl in
    let m = executed n in
    let h = within n b in
    local_is_front f l layout got at executed (length rows) within inputs carries n m (length rows - m) x b (omega arith) d
    ∙ ap (λ j. take m (stream_of [] f (firsts at j) (origin_in (part_of l n) x))) (let e : m + (length rows - m) ≡ length rows = omega (arith, h) in e)
    ∙ ap (λ rs. take m (stream_of [] f rs (origin_in (part_of l n) x))) all

-- rows that are the same give the same streams, and the same runs
module _ (l : Layout) (got : Messages) (n m : ℕ) (rows rows' : ℕ → List Value) (same : (k : ℕ) → k < m → rows k ≡ rows' k) where
  pub local_stream_same : (x : ℕ) → local_stream l got n rows m x ≡ local_stream l got n rows' m x
  local_stream_same x = ap (λ rs. stream_of [] (part_of l n).flat.func rs x) (firsts-same _ _ m (λ k b. ap (λ row. fed_row l got n row k) (same k b)))

  pub local_runs_same : (callee : Callee) → local_runs callee l got n rows m ≡ local_runs callee l got n rows' m
  local_runs_same callee = ap (environments callee (part_of l n).flat.func) (upto-same _ _ m (λ k b. ap (λ row. map Some (fed_row l got n row k)) (same k b)))
