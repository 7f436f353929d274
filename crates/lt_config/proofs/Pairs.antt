-- The lists of times and of pairs, as far as they are made.
use Rattle.std.proofs.Common.{◌≡◌, ◌≢◌, ◌<◌, ◌≤◌, ◌+◌, ℕ, ◌==◌, Bool, true, false, if◌then◌else◌, List, [], ◌∷◌, ◌++◌, length, map, drop, get_or, refl, sym, ap, ◌∙◌, arith, append_assoc, add-one, drop-cons}
use Rattle.std.proofs.lemmas.List.{map_push, map-append, length-map, get_or-map}
use Rattle.std.proofs.lemmas.List.Elements.{All-cons, All-nil}
use Rattle.toml.specs.Data.{Members}
use Rattle.lt_arch.specs.declared.times.NodeTime.{NodeTime}
use Rattle.lt_arch.specs.declared.times.PairTime.{PairTime}
use Rattle.lt_arch.specs.Pairs.{pairs_from, pairs_below, ends_of, HasNoneAbove}
use Rattle.lt_arch.specs.declared.named.NamedNode.{NamedNode}
use Rattle.lt_arch.specs.NodeNames.{names_of}
use Rattle.lt_config.specs.Setup.{NodeNumbers, PairNumbers, pair_name, delay_of, pair_numbers, most_delay}
use Rattle.lt_config.specs.Reading.{numbers_of, delays_of}
use Rattle.lt_config.proofs.Ranges.{delay_at_most}

-- ---- a node's time

pub one_time : (f : List ℕ → NodeNumbers) (nodes : List NamedNode) (times : List NodeTime) (i : ℕ) (n : NamedNode) (x : NodeTime) (whole : List NodeNumbers) → i < length nodes
    → n ≡ get_or nodes i n → numbers_of x ≡ f n.name → whole ≡ map numbers_of times ++ map f (names_of (drop i nodes))
    → whole ≡ map numbers_of (times ++ x ∷ []) ++ map f (names_of (drop (i + 1) nodes))
one_time f nodes times i n x whole below at is so_far =
    let next : drop i nodes ≡ n ∷ drop (i + 1) nodes = drop-cons nodes i n below ∙ ap (λ m. get_or nodes i n ∷ drop m nodes) (sym (add-one i)) ∙ ap (λ m. m ∷ drop (i + 1) nodes) (sym at) in
    let rest = map f (names_of (drop (i + 1) nodes)) in
    so_far ∙ ap (λ ns. map numbers_of times ++ map f (names_of ns)) next ∙ ap (λ y. map numbers_of times ++ (y ∷ rest)) (sym is)
    ∙ sym (append_assoc (map numbers_of times) (numbers_of x ∷ []) rest) ∙ ap (λ l. l ++ rest) (sym (map_push numbers_of times x))

-- ---- a pair's time

pub name_at : (nodes : List NamedNode) (i : ℕ) (d : NamedNode) → i < length nodes → get_or (names_of nodes) i [] ≡ (get_or nodes i d).name
name_at nodes i d below = get_or-map (λ (node : NamedNode). node.name) nodes i d [] below

pub one_pair : (t : Members) (names : List (List ℕ)) (from to : ℕ) (a b name : List ℕ) (bounds : ℕ × ℕ) → get_or names from [] ≡ a → get_or names to [] ≡ b
    → name ≡ pair_name a b → bounds ≡ delay_of t name
    → (let made : PairNumbers = record { from = from; to = to; dmin = bounds.0; dmax = bounds.1 } in made) ≡ pair_numbers t names (from, to)
one_pair t names from to a b name bounds at_from at_to is delay =
    let whole : bounds ≡ delay_of t (pair_name (get_or names from []) (get_or names to [])) = rw (at_from, at_to, ← is) delay in
    let make : ℕ × ℕ → PairNumbers = λ x. record { from = from; to = to; dmin = x.0; dmax = x.1 } in
    ap make whole

-- ---- the pairs of a node, and of all

pub more_pairs : (f : ℕ × ℕ → PairNumbers) (start : List PairNumbers) (pairs : List PairTime) (p : PairTime) (i j : ℕ) → j ≢ i → delays_of p ≡ f (i, j)
    → map delays_of pairs ≡ start ++ map f (pairs_from i j) → map delays_of (pairs ++ p ∷ []) ≡ start ++ map f (pairs_from i (j + 1))
more_pairs f start pairs p i j differ is so_far = rw add-one (by (j == i) (other i j differ))
  where
    other : (i j : ℕ) → j ≢ i → (j == i) ≡ false
    other i j h = grind arith

    by : (b : Bool) → b ≡ false → map delays_of (pairs ++ p ∷ []) ≡ start ++ map f (if b then pairs_from i j else pairs_from i j ++ (i, j) ∷ [])
    by true h = cc
    by false h =
        map_push delays_of pairs p ∙ ap (λ l. l ++ delays_of p ∷ []) so_far ∙ append_assoc start (map f (pairs_from i j)) (delays_of p ∷ [])
        ∙ ap (λ y. start ++ (map f (pairs_from i j) ++ y ∷ [])) is ∙ ap (λ l. start ++ l) (sym (map_push f (pairs_from i j) (i, j)))

pub same_pairs : (f : ℕ × ℕ → PairNumbers) (start pairs : List PairNumbers) (i j : ℕ) → j ≡ i → pairs ≡ start ++ map f (pairs_from i j) → pairs ≡ start ++ map f (pairs_from i (j + 1))
same_pairs f start pairs i j same so_far = rw add-one (by (j == i) (own i j same))
  where
    own : (i j : ℕ) → j ≡ i → (j == i) ≡ true
    own i j h = grind arith

    by : (b : Bool) → b ≡ true → pairs ≡ start ++ map f (if b then pairs_from i j else pairs_from i j ++ (i, j) ∷ [])
    by true h = so_far
    by false h = cc

pub pairs_of_next : (f : ℕ × ℕ → PairNumbers) (n i : ℕ) (before after : List PairNumbers) → before ≡ map f (pairs_below n i) → after ≡ before ++ map f (pairs_from i n) → after ≡ map f (pairs_below n (i + 1))
pairs_of_next f n i before after done is = rw add-one (is ∙ ap (λ l. l ++ map f (pairs_from i n)) done ∙ sym (map-append f (pairs_below n i) (pairs_from i n)))

-- ---- what a timing keeps

abbrev pub ends : PairNumbers → ℕ × ℕ
ends p = (p.from, p.to)

ends_seen : (ps : List PairTime) → ends_of ps ≡ map ends (map delays_of ps)
ends_seen [] = refl
ends_seen (p ∷ ps) = ap (λ l. (p.from, p.to) ∷ l) (ends_seen ps)

ends_kept : (t : Members) (names : List (List ℕ)) (ops : List (ℕ × ℕ)) → map ends (map (pair_numbers t names) ops) ≡ ops
ends_kept t names [] = refl
ends_kept t names (p ∷ ops) = ap (λ l. p ∷ l) (ends_kept t names ops)

pub pairs_are : (t : Members) (names : List (List ℕ)) (ps : List PairTime) (ops : List (ℕ × ℕ)) → map delays_of ps ≡ map (pair_numbers t names) ops → ends_of ps ≡ ops
pairs_are t names ps ops e = ends_seen ps ∙ ap (map ends) e ∙ ends_kept t names ops

pub none_above : (t : Members) (names : List (List ℕ)) (ps : List PairTime) (ops : List (ℕ × ℕ)) → map delays_of ps ≡ map (pair_numbers t names) ops → HasNoneAbove ps (most_delay t)
none_above t names [] ops e = All-nil _
none_above t names (p ∷ ps) [] e = cc
none_above t names (p ∷ ps) (o ∷ ops) e =
    let head : delays_of p ≡ pair_numbers t names o = cc in
    let tail : map delays_of ps ≡ map (pair_numbers t names) ops = cc in
    let bound = delay_at_most t (pair_name (get_or names o.0 []) (get_or names o.1 [])) in
    let upper : p.dmax ≡ (pair_numbers t names o).dmax = ap (λ (x : PairNumbers). x.dmax) head in
    All-cons (λ (q : PairTime). q.dmax ≤ most_delay t) p ps (rw upper bound) (none_above t names ps ops tail)

pub as_many : {A B X : Type 0} (f : A → X) (g : B → X) (xs : List A) (ys : List B) → map f xs ≡ map g ys → length xs ≡ length ys
as_many f g xs ys e = sym (length-map xs f) ∙ ap length e ∙ length-map ys g
