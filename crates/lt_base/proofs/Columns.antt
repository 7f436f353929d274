-- Columns and the rows that stand in them.
use Rattle.std.proofs.Common.{◌≡◌, ℕ, zero, suc, pos, ◌+◌, ◌<◌, ◌≤◌, List, [], ◌∷◌, ◌++◌, length, map, take, get_or, set, Some, refl, sym, ap, ◌∙◌, subst, arith, slice_get, inl, inr}
use Rattle.std.specs.Global.{Vec}
use Rattle.std.specs.Option.{option_and_then}
use Rattle.std.proofs.Math.Seq.{map-set_same, get_or-append_seam}
use Rattle.std.proofs.Math.ListN.{get_or-append, get_or-map as get_or-map_any}
use Rattle.std.proofs.lemmas.List.{get_or-take, take-take, take-append-le, length-append, length-take-le, length-map, get_or-map, length-set, take_more_set, take_more, map-append, take_all}
use Rattle.std.proofs.lemmas.List.Elements.{All-set, All-push}
use Rattle.std.proofs.lemmas.Option.{slice_get-get_or}
use Rattle.std.proofs.lemmas.Bool.Decides.{leb_tells}
use Rattle.lt_base.specs.declared.value.Value.{Value}
use Rattle.lt_base.specs.declared.value.Value.TheVariants.{Int}
use Rattle.lt_base.specs.Inputs.{in_column, rows_below, entry_at, HaveRows, SameRows, HoldRow}

pub length-rows_below : (columns : List (List Value)) (n : ℕ) → length (rows_below columns n) ≡ n
length-rows_below columns zero = refl
length-rows_below columns (suc n) = length-append (rows_below columns n) _ ∙ ap (λ m. m + 1) (length-rows_below columns n) ∙ omega arith

-- a column that is cut at n and then holds a value has the same first entries
pub take-put : (n : ℕ) (column : List Value) (v : Value) → n ≤ length column → take n (take n column ++ v ∷ []) ≡ take n column
take-put n column v h =
    let long : n ≤ length (take n column) = rw (length-take-le n column h) (omega arith) in
    take-append-le n (take n column) (v ∷ []) long ∙ take-take n n column (omega arith)

pub in_column-put : (n : ℕ) (column : List Value) (v : Value) → n ≤ length column → in_column (take n column ++ v ∷ []) n ≡ v
in_column-put n column v h =
    subst (λ (k : ℕ). in_column (take n column ++ v ∷ []) k ≡ v) (length-take-le n column h) (get_or-append_seam (take n column) v [] _)

-- a column is replaced by one with the same first entries
pub SameRows-set : (n : ℕ) (old columns : List (Vec Value)) (i : ℕ) (column d : Vec Value) → take n column.items ≡ take n (get_or columns i d).items → SameRows n old columns → SameRows n old (set columns i column)
SameRows-set n old columns i column d same kept = map-set_same (λ (c : Vec Value). take n c.items) columns i column d same ∙ kept

row_of_fronts : (n k : ℕ) (columns : List (Vec Value)) → k < n → map (λ (column : List Value). in_column column k) (map (λ (c : Vec Value). c.items) columns) ≡ map (λ (column : List Value). in_column column k) (map (λ (c : Vec Value). take n c.items) columns)
row_of_fronts n k [] h = refl
row_of_fronts n k (c ∷ columns) h =
    ap (λ (v : Value). v ∷ map (λ (column : List Value). in_column column k) (map (λ (d : Vec Value). d.items) columns)) (sym (get_or-take n c.items k (Int (pos 0)) h))
    ∙ ap (λ (row : List Value). in_column (take n c.items) k ∷ row) (row_of_fronts n k columns h)

row_of_items : (k : ℕ) (columns : List (Vec Value)) → map (λ (column : List Value). in_column column k) (map (λ (c : Vec Value). c.items) columns) ≡ map (λ (c : Vec Value). in_column c.items k) columns
row_of_items k [] = refl
row_of_items k (c ∷ columns) = ap (λ (row : List Value). in_column c.items k ∷ row) (row_of_items k columns)

-- the first rows are told by the first entries of the columns
rows_below-fronts : (n k : ℕ) (columns : List (Vec Value)) → k ≤ n → rows_below (map (λ (c : Vec Value). c.items) columns) k ≡ rows_below (map (λ (c : Vec Value). take n c.items) columns) k
rows_below-fronts n zero columns h = refl
rows_below-fronts n (suc k) columns h = λ i. rows_below-fronts n k columns (omega arith) i ++ row_of_fronts n k columns (omega arith) i ∷ []

pub rows_below-same : (n : ℕ) (old new : List (Vec Value)) → SameRows n old new → rows_below (map (λ (c : Vec Value). c.items) new) n ≡ rows_below (map (λ (c : Vec Value). c.items) old) n
rows_below-same n old new same =
    rows_below-fronts n n new (omega arith) ∙ ap (λ (columns : List (List Value)). rows_below columns n) same ∙ sym (rows_below-fronts n n old (omega arith))

-- a row more
pub rows_below-more : (n : ℕ) (row : List Value) (old new : List (Vec Value)) → SameRows n old new → HoldRow n row new → rows_below (map (λ (c : Vec Value). c.items) new) (n + 1) ≡ rows_below (map (λ (c : Vec Value). c.items) old) n ++ row ∷ []
rows_below-more n row old new same held =
    let contents = map (λ (c : Vec Value). c.items) new in
    let next : n + 1 ≡ suc n = omega arith in
    ap (rows_below contents) next
    ∙ ap (λ (rows : List (List Value)). rows ++ map (λ (column : List Value). in_column column n) contents ∷ []) (rows_below-same n old new same)
    ∙ ap (λ (r : List Value). rows_below (map (λ (c : Vec Value). c.items) old) n ++ r ∷ []) (row_of_items n new ∙ held)

get_or_any : (column : List Value) (k : ℕ) (d e : Value) → k < length column → get_or column k d ≡ get_or column k e
get_or_any [] k d e h = absurd (omega arith)
get_or_any (v ∷ column) zero d e h = refl
get_or_any (v ∷ column) (suc k) d e h = get_or_any column k d e (omega arith)

get_or-rows_below : (columns : List (List Value)) (n k : ℕ) (d : List Value) → k < n → get_or (rows_below columns n) k d ≡ map (λ (column : List Value). in_column column k) columns
get_or-rows_below columns zero k d h = absurd (omega arith)
get_or-rows_below columns (suc n) k d h =
    let size = length-rows_below columns n in
    let row = map (λ (column : List Value). in_column column k) columns in
    elim (leb_tells (suc k) n) [
      | inl before ↦ get_or-append (rows_below columns n) _ d k (rw size (omega (arith, before.1))) ∙ get_or-rows_below columns n k d (omega (arith, before.1))
      | inr later ↦
          let here : n ≡ k = omega (arith, later.1, h) in
          let there : length (rows_below columns n) ≡ k = size ∙ here in
          ap (λ m. get_or (rows_below columns n ++ map (λ (column : List Value). in_column column m) columns ∷ []) k d) here
          ∙ sym (ap (λ m. get_or (rows_below columns n ++ row ∷ []) m d) there)
          ∙ get_or-append_seam (rows_below columns n) row [] d
    ]

-- a value that stands in a column is the input's in that row
pub entry_at-rows_below : (columns : List (Vec Value)) (n k i : ℕ) (column : Vec Value) (v : Value) → k < n → i < length columns → get_or columns i column ≡ column → k < length column.items → get_or column.items k v ≡ v
    → entry_at (rows_below (map (λ (c : Vec Value). c.items) columns) n) k i ≡ Some v
entry_at-rows_below columns n k i column v inside across is within reads =
    let contents = map (λ (c : Vec Value). c.items) columns in
    let row = map (λ (c : List Value). in_column c k) contents in
    let found : slice_get (rows_below contents n) k ≡ Some row =
    slice_get-get_or (rows_below contents n) k [] (rw (length-rows_below contents n) inside) ∙ ap Some (get_or-rows_below contents n k [] inside) in
    let wide : i < length contents = rw (length-map columns (λ (c : Vec Value). c.items)) across in
    let here : get_or contents i [] ≡ column.items = get_or-map (λ (c : Vec Value). c.items) columns i column [] across ∙ ap (λ (c : Vec Value). c.items) is in
    let broad : i < length row = rw (length-map contents (λ (c : List Value). in_column c k)) wide in
    ap (λ o. option_and_then (λ (r : List Value). slice_get r i) o) found
    ∙ slice_get-get_or row i v broad
    ∙ ap Some (get_or-map (λ (c : List Value). in_column c k) contents i [] v wide ∙ ap (λ (c : List Value). in_column c k) here ∙ get_or_any column.items k (Int (pos 0)) v within ∙ reads)

-- the row was put into the first columns
pub record Filling (rows : ℕ) (row : List Value) (done : ℕ) (old columns : List (Vec Value)) : Type 0 where
  pub width : length columns ≡ length old
  pub filled : HaveRows rows columns
  pub kept : SameRows rows old columns
  pub more : HaveRows (rows + 1) (take done columns)
  pub held : map (λ (c : Vec Value). in_column c.items rows) (take done columns) ≡ take done row

-- no column yet
pub filling_starts : (rows : ℕ) (row : List Value) (columns : List (Vec Value)) → HaveRows rows columns → Filling rows row 0 columns columns
filling_starts rows row columns filled = record { width = refl; filled = filled; kept = refl; more = λ k d h. absurd (omega (arith, h)); held = refl }

-- a column more
pub filling_goes_on : (rows : ℕ) (row : List Value) (done : ℕ) (old columns : List (Vec Value)) (before after : Vec Value) (v d : Value)
    → Filling rows row done old columns → done < length columns → done < length row → before ≡ get_or columns done before → v ≡ get_or row done d
    → after.items ≡ take rows before.items ++ v ∷ [] → Filling rows row (done + 1) old (set columns done after)
filling_goes_on rows row done old columns before after v d at inside across is reads put =
    let long : rows ≤ length before.items = subst (λ (c : Vec Value). rows ≤ length c.items) (sym is) (at.filled done before inside) in
    let size : length after.items ≡ rows + 1 = ap length put ∙ length-append (take rows before.items) (v ∷ []) ∙ ap (λ n. n + 1) (length-take-le rows before.items long) in
    let same : take rows after.items ≡ take rows (get_or columns done before).items =
    ap (take rows) put ∙ take-put rows before.items v long ∙ ap (λ (c : Vec Value). take rows c.items) is in
    let value : in_column after.items rows ≡ v = ap (λ (column : List Value). in_column column rows) put ∙ in_column-put rows before.items v long in
    let f : Vec Value → Value = λ c. in_column c.items rows in
    record {
      width = length-set columns done after ∙ at.width;
      filled = All-set (λ (c : Vec Value). rows ≤ length c.items) columns done after (rw size (omega arith)) at.filled;
      kept = SameRows-set rows old columns done after before same at.kept;
      more = rw (take_more_set columns done after inside) (All-push (λ (c : Vec Value). rows + 1 ≤ length c.items) (take done columns) after at.more (rw size (omega arith)));
      held =
          ap (map f) (take_more_set columns done after inside)
          ∙ map-append f (take done columns) (after ∷ [])
          ∙ ap (λ (r : List Value). r ++ f after ∷ []) at.held
          ∙ ap (λ (w : Value). take done row ++ w ∷ []) (value ∙ reads)
          ∙ sym (take_more row done d across);
    }

-- no memory for a column: its first entries stay
pub filling_fails : (rows : ℕ) (row : List Value) (done : ℕ) (old columns : List (Vec Value)) (before after : Vec Value)
    → Filling rows row done old columns → done < length columns → before ≡ get_or columns done before
    → after.items ≡ take rows before.items → HaveRows rows (set columns done after) × SameRows rows old (set columns done after)
filling_fails rows row done old columns before after at inside is cut =
    let long : rows ≤ length before.items = subst (λ (c : Vec Value). rows ≤ length c.items) (sym is) (at.filled done before inside) in
    let size : length after.items ≡ rows = ap length cut ∙ length-take-le rows before.items long in
    let same : take rows after.items ≡ take rows (get_or columns done before).items =
    ap (take rows) cut ∙ take-take rows rows before.items (omega arith) ∙ ap (λ (c : Vec Value). take rows c.items) is in (
      All-set (λ (c : Vec Value). rows ≤ length c.items) columns done after (rw size (omega arith)) at.filled,
      SameRows-set rows old columns done after before same at.kept,
    )

-- all columns
pub filling_ends : (rows : ℕ) (row : List Value) (done : ℕ) (old columns : List (Vec Value)) → Filling rows row done old columns → done ≡ length row → length row ≡ length old
    → HaveRows (rows + 1) columns × HoldRow rows row columns
filling_ends rows row done old columns at end width =
    let whole : take done columns ≡ columns = take_all done columns (omega (arith, end, width, at.width)) in (
      subst (λ (cs : List (Vec Value)). HaveRows (rows + 1) cs) whole at.more,
      ap (λ (cs : List (Vec Value)). map (λ (c : Vec Value). in_column c.items rows) cs) (sym whole) ∙ at.held ∙ take_all done row (omega (arith, end)),
    )

-- columns with the same contents are as long
pub HaveRows-same : (n : ℕ) (old new : List (Vec Value)) → map (λ (c : Vec Value). c.items) new ≡ map (λ (c : Vec Value). c.items) old → HaveRows n old → HaveRows n new
HaveRows-same n old new same filled k d h =
    let f : Vec Value → List Value = λ c. c.items in
    let size : length new ≡ length old = sym (length-map new f) ∙ ap length same ∙ length-map old f in
    let is : f (get_or new k d) ≡ f (get_or old k d) = sym (get_or-map_any f new k d) ∙ ap (λ (l : List (List Value)). get_or l k (f d)) same ∙ get_or-map_any f old k d in
    rw is (filled k d (omega (arith, size, h)))
