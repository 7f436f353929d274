-- A template, one byte further.
use Rattle.std.proofs.Common.{◌≡◌, ℕ, suc, ◌+◌, ◌<◌, ◌≤◌, List, [], ◌∷◌, ◌++◌, length, get_or, drop, decimal, true, false, eqb, cond, refl, sym, ap, ◌∙◌, arith, append_assoc, append-nil, add-one, drop-cons, drop_of_length-le, ne_eqb}
use Rattle.lt_svg.specs.Pieces.{filled_template}

-- a `%` for which there is a number
filled_number : (cs ns : List ℕ) (c n : ℕ) → c ≡ 37 → filled_template (c ∷ cs) (n ∷ ns) ≡ decimal n ++ filled_template cs ns
unfolding filled_template
filled_number cs ns c n e = rw e refl

-- another byte
filled_byte : (cs ns : List ℕ) (c : ℕ) → (c ≡ 37 → ⊥) → filled_template (c ∷ cs) ns ≡ c ∷ filled_template cs ns
unfolding filled_template
filled_byte cs [] c ne = refl
filled_byte cs (n ∷ ns) c ne = let other : eqb c 37 ≡ false = ne_eqb c 37 ne in rw other refl

-- a byte past the last number
filled_past : (cs ns : List ℕ) (c : ℕ) → ns ≡ [] → filled_template (c ∷ cs) ns ≡ c ∷ filled_template cs ns
unfolding filled_template
filled_past cs ns c none = rw none refl

drop_one : (xs : List ℕ) (i : ℕ) → i < length xs → drop i xs ≡ get_or xs i 0 ∷ drop (i + 1) xs
drop_one xs i h = rw add-one (drop-cons xs i 0 h)

pub number_more : (t ns out further whole : List ℕ) (i k : ℕ) → i < length t → k < length ns → get_or t i 0 ≡ 37 → further ≡ out ++ decimal (get_or ns k 0)
    → out ++ filled_template (drop i t) (drop k ns) ≡ whole → further ++ filled_template (drop (i + 1) t) (drop (k + 1) ns) ≡ whole
number_more t ns out further whole i k there some sign grown before =
    let rest = filled_template (drop (i + 1) t) (drop (k + 1) ns) in
    let n = decimal (get_or ns k 0) in
    let head : filled_template (drop i t) (drop k ns) ≡ n ++ rest =
    ap (λ a. filled_template a (drop k ns)) (drop_one t i there) ∙ ap (λ b. filled_template (get_or t i 0 ∷ drop (i + 1) t) b) (drop_one ns k some) ∙ filled_number (drop (i + 1) t) (drop (k + 1) ns) (get_or t i 0) (get_or ns k 0) sign in
    ap (λ o. o ++ rest) grown ∙ append_assoc out n rest ∙ ap (λ r. out ++ r) (sym head) ∙ before

byte_grows : (out further whole rest front : List ℕ) (c : ℕ) → further ≡ out ++ c ∷ [] → front ≡ c ∷ rest → out ++ front ≡ whole → further ++ rest ≡ whole
byte_grows out further whole rest front c grown head before = ap (λ o. o ++ rest) grown ∙ append_assoc out (c ∷ []) rest ∙ ap (λ r. out ++ r) (sym head) ∙ before

pub byte_more : (t ns out further whole : List ℕ) (i k : ℕ) → i < length t → (get_or t i 0 ≡ 37 → ⊥) → further ≡ out ++ get_or t i 0 ∷ []
    → out ++ filled_template (drop i t) (drop k ns) ≡ whole → further ++ filled_template (drop (i + 1) t) (drop k ns) ≡ whole
byte_more t ns out further whole i k there other grown before =
    byte_grows out further whole (filled_template (drop (i + 1) t) (drop k ns)) (filled_template (drop i t) (drop k ns)) (get_or t i 0) grown
    (ap (λ a. filled_template a (drop k ns)) (drop_one t i there) ∙ filled_byte (drop (i + 1) t) (drop k ns) (get_or t i 0) other) before

pub past_more : (t ns out further whole : List ℕ) (i k : ℕ) → i < length t → length ns ≤ k → further ≡ out ++ get_or t i 0 ∷ []
    → out ++ filled_template (drop i t) (drop k ns) ≡ whole → further ++ filled_template (drop (i + 1) t) (drop k ns) ≡ whole
past_more t ns out further whole i k there past grown before =
    byte_grows out further whole (filled_template (drop (i + 1) t) (drop k ns)) (filled_template (drop i t) (drop k ns)) (get_or t i 0) grown
    (ap (λ a. filled_template a (drop k ns)) (drop_one t i there) ∙ filled_past (drop (i + 1) t) (drop k ns) (get_or t i 0) (drop_of_length-le ns {i = k} past)) before

filled_none : (ns : List ℕ) → filled_template [] ns ≡ []
unfolding filled_template
filled_none ns = refl

pub all_filled : (t ns out whole : List ℕ) (i k : ℕ) → length t ≤ i → out ++ filled_template (drop i t) (drop k ns) ≡ whole → out ≡ whole
all_filled t ns out whole i k past before =
    sym (append-nil out) ∙ ap (λ r. out ++ r) (sym (filled_none (drop k ns))) ∙ ap (λ a. out ++ filled_template a (drop k ns)) (sym (drop_of_length-le t {i = i} past)) ∙ before
