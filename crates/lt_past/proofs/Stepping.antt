-- One instant more of a monitor.
use Rattle.std.proofs.Common.{◌≡◌, ℕ, zero, suc, ◌+◌, ◌-◌, ◌<◌, ◌≤◌, Bool, true, false, List, [], ◌∷◌, ◌++◌, length, get_or, refl, sym, ap, ap₂, ◌∙◌, subst, arith, append_assoc, append-nil, length-append}
use Rattle.std.specs.Prelude.{◌↔◌, IsTrue, slice_index_or}
use Rattle.std.proofs.Math.ListN.{get_or-append}
use Rattle.std.proofs.Math.Seq.{get_or-append_seam}
use Rattle.lt_past.specs.declared.monitor.Part.{Part}
use Rattle.lt_past.specs.declared.monitor.Part.TheVariants as part
use Rattle.lt_past.specs.declared.words.Prefix.TheVariants.{Previous}
use Rattle.lt_past.specs.Formula.{Formula, constant, signal, unary, binary}
use Rattle.lt_past.specs.Satisfaction.{Signals, Past, Sat, signals_of}
use Rattle.lt_past.specs.Parts.{part_count, parts_of, EachPart}
use Rattle.lt_past.specs.Turn.{at, prior, past, infix_value, part_value, Turned}
use Rattle.lt_past.specs.Monitoring.{Watching, AreLast, MonitorStands, is_some}
use Rattle.lt_past.proofs.Rows.{length_parts}
use Rattle.lt_past.proofs.Past.{past_right, both_right}
use Rattle.lt_past.proofs.Agreeing.{uses_any, sat_alike}

-- the number of a formula's own part
abbrev top : ℕ → Formula → ℕ
top n f = n + part_count f - 1

at_top : (P : ℕ → Formula → Type 0) (n : ℕ) (f : Formula) → EachPart P n f → P (top n f) f
at_top P n (constant b) e = let k : n ≡ n + 1 - 1 = omega arith in subst (λ m. P m (constant b)) k e
at_top P n (signal b) e = let k : n ≡ n + 1 - 1 = omega arith in subst (λ m. P m (signal b)) k e
at_top P n (unary p f) e = let k : n + part_count f ≡ n + (part_count f + 1) - 1 = omega arith in subst (λ m. P m (unary p f)) k e.1
at_top P n (binary o f g) e = let k : n + part_count f + part_count g ≡ n + (part_count f + part_count g + 1) - 1 = omega arith in subst (λ m. P m (binary o f g)) k e.2

each_all : (P : ℕ → Formula → Type 0) → ((k : ℕ) (g : Formula) → P k g) → (n : ℕ) (f : Formula) → EachPart P n f
each_all P h n (constant b) = h n (constant b)
each_all P h n (signal k) = h n (signal k)
each_all P h n (unary p f) = (each_all P h n f, h (n + part_count f) (unary p f))
each_all P h n (binary o f g) = (each_all P h n f, each_all P h (n + part_count f) g, h (n + part_count f + part_count g) (binary o f g))

each_map : (P Q : ℕ → Formula → Type 0) → ((k : ℕ) (g : Formula) → P k g → Q k g) → (n : ℕ) (f : Formula) → EachPart P n f → EachPart Q n f
each_map P Q h n (constant b) e = h n (constant b) e
each_map P Q h n (signal k) e = h n (signal k) e
each_map P Q h n (unary p f) e = (each_map P Q h n f e.0, h (n + part_count f) (unary p f) e.1)
each_map P Q h n (binary o f g) e = (each_map P Q h n f e.0, each_map P Q h (n + part_count f) g e.1, h (n + part_count f + part_count g) (binary o f g) e.2)

pub some_parts : (f : Formula) → 1 ≤ part_count f
some_parts (constant b) = omega arith
some_parts (signal k) = omega arith
some_parts (unary p f) = omega arith
some_parts (binary o f g) = omega arith

-- the part of this number is the formula's own
abbrev HasPart : List Part → ℕ → Formula → Type 0
HasPart parts k (constant b) = slice_index_or parts k (part.Lit false) ≡ part.Lit b
HasPart parts k (signal i) = slice_index_or parts k (part.Lit false) ≡ part.Out i
HasPart parts k (unary p f) = slice_index_or parts k (part.Lit false) ≡ part.Before p
HasPart parts k (binary o f g) = slice_index_or parts k (part.Lit false) ≡ part.Between o (k - part_count g - 1)

seam : (parts before behind : List Part) (x : Part) (k : ℕ) → parts ≡ before ++ x ∷ behind → length before ≡ k → slice_index_or parts k (part.Lit false) ≡ x
seam parts before behind x k e l = ap (λ z. get_or z k (part.Lit false)) e ∙ ap (λ m. get_or (before ++ x ∷ behind) m (part.Lit false)) (sym l) ∙ get_or-append_seam before x behind (part.Lit false)

has_parts : (parts before behind : List Part) (n : ℕ) (f : Formula) → length before ≡ n → parts ≡ before ++ (parts_of n f ++ behind) → EachPart (HasPart parts) n f
has_parts parts before behind n (constant b) l e = seam parts before behind (part.Lit b) n e l
has_parts parts before behind n (signal k) l e = seam parts before behind (part.Out k) n e l
has_parts parts before behind n (unary p f) l e =
    let fs = parts_of n f in
    let x = part.Before p in
    let a : parts ≡ before ++ (fs ++ (x ∷ behind)) = e ∙ ap (λ z. before ++ z) (append_assoc fs (x ∷ []) behind) in
    let b : parts ≡ (before ++ fs) ++ (x ∷ behind) = a ∙ sym (append_assoc before fs (x ∷ behind)) in
    let m : length (before ++ fs) ≡ n + part_count f = length-append before fs ∙ ap₂ (λ u v. u + v) l (length_parts n f) in
    (has_parts parts before (x ∷ behind) n f l a, seam parts (before ++ fs) behind x (n + part_count f) b m)
has_parts parts before behind n (binary o f g) l e =
    let fs = parts_of n f in
    let k = n + part_count f in
    let gs = parts_of k g in
    let x = part.Between o (k - 1) in
    let a : parts ≡ before ++ (fs ++ (gs ++ (x ∷ behind))) =
    e ∙ ap (λ z. before ++ z) (append_assoc fs (gs ++ x ∷ []) behind ∙ ap (λ z. fs ++ z) (append_assoc gs (x ∷ []) behind)) in
    let b : parts ≡ (before ++ fs) ++ (gs ++ (x ∷ behind)) = a ∙ sym (append_assoc before fs (gs ++ (x ∷ behind))) in
    let c : parts ≡ ((before ++ fs) ++ gs) ++ (x ∷ behind) = b ∙ sym (append_assoc (before ++ fs) gs (x ∷ behind)) in
    let m : length (before ++ fs) ≡ k = length-append before fs ∙ ap₂ (λ u v. u + v) l (length_parts n f) in
    let q : length ((before ++ fs) ++ gs) ≡ k + part_count g = length-append (before ++ fs) gs ∙ ap₂ (λ u v. u + v) m (length_parts k g) in
    let r : k - 1 ≡ k + part_count g - part_count g - 1 = omega arith in
    (has_parts parts before (gs ++ (x ∷ behind)) n f l a, has_parts parts (before ++ fs) (x ∷ behind) k g m b, seam parts ((before ++ fs) ++ gs) behind x (k + part_count g) c q ∙ ap (part.Between o) r)

prior_at : (vs : List Bool) (k : ℕ) → 1 ≤ k → prior vs k ≡ at vs (k - 1)
prior_at vs zero h = absurd (omega (arith, h))
prior_at vs (suc k) h = let e : k ≡ suc k - 1 = omega arith in ap (at vs) e

module _ (instants : List (List Bool)) (now : List Bool) (began : Bool) (olds news : List Bool) (began_is : began ≡ is_some instants) where
  abbrev all : List (List Bool)
  all = instants ++ now ∷ []

  abbrev n : ℕ
  n = length instants

  abbrev S : Signals
  S = signals_of all

  abbrev Old : ℕ → Formula → Type 0
  Old k g = IsTrue (at olds k) ↔ Past Previous (Sat S g) n

  abbrev New : ℕ → Formula → Type 0
  New k g = IsTrue (at news k) ↔ Sat S g n

  here : (k : ℕ) → S k n ≡ at now k
  here k = ap (λ row. get_or row k false) (get_or-append_seam instants now [] [])

  begun : IsTrue began ↔ (0 < n)
  begun = by instants began_is
    where
      by : (rows : List (List Bool)) → began ≡ is_some rows → IsTrue began ↔ (0 < length rows)
      by [] e = (λ h. cc, λ h. absurd (omega arith))
      by (r ∷ more) e = (λ h. omega arith, λ h. e)

  module _ (parts : List Part) (turned : Turned parts began now olds news (length parts)) where
    -- each part has its truth value
    new_right : (m : ℕ) (f : Formula) → m + part_count f ≤ length parts → EachPart (HasPart parts) m f → EachPart Old m f → EachPart New m f
    new_right m (constant b) low has old =
        let e : at news m ≡ b = turned m (omega arith) ∙ ap (part_value began now olds news m) has in
        (λ h. subst IsTrue e h, λ h. subst IsTrue (sym e) h)
    new_right m (signal k) low has old =
        let e : at news m ≡ S k n = turned m (omega arith) ∙ ap (part_value began now olds news m) has ∙ sym (here k) in
        (λ h. subst IsTrue e h, λ h. subst IsTrue (sym e) h)
    new_right m (unary p f) low has old =
        let k = m + part_count f in
        let low' : m + part_count f ≤ length parts = omega arith in
        let fs : EachPart New m f = new_right m f low' has.0 old.0 in
        let one : 1 ≤ k = omega (arith, some_parts f) in
        let e : at news k ≡ past p began (at olds k) (at olds (k - 1)) (at news (k - 1)) =
        turned k (omega arith) ∙ ap (part_value began now olds news k) has.1 ∙ ap₂ (past p began (at olds k)) (prior_at olds k one) (prior_at news k one) in
        let right = past_right (Sat S f) (Sat S f) n p began (at olds k) (at olds (k - 1)) (at news (k - 1)) begun old.1 (at_top Old m f old.0) (at_top New m f fs) in
        (fs, (λ h. right.0 (subst IsTrue e h), λ h. subst IsTrue (sym e) (right.1 h)))
    new_right m (binary o f g) low has old =
        let l = m + part_count f in
        let k = l + part_count g in
        let low_f : m + part_count f ≤ length parts = omega arith in
        let low_g : l + part_count g ≤ length parts = omega arith in
        let fs : EachPart New m f = new_right m f low_f has.0 old.0 in
        let gs : EachPart New l g = new_right l g low_g has.1 old.1 in
        let one : 1 ≤ k = omega (arith, some_parts f) in
        let r : k - part_count g - 1 ≡ l - 1 = omega arith in
        let e : at news k ≡ infix_value o (at olds k) (at news (l - 1)) (at news (k - 1)) =
        turned k (omega arith) ∙ ap (part_value began now olds news k) has.2 ∙ ap₂ (infix_value o (at olds k)) (ap (at news) r) (prior_at news k one) in
        let right = both_right (Sat S f) (Sat S g) n o (at olds k) (at news (l - 1)) (at news (k - 1)) old.2 (at_top New m f fs) (at_top New l g gs) in
        (fs, gs, (λ h. right.0 (subst IsTrue e h), λ h. subst IsTrue (sym e) (right.1 h)))

  -- what the last instant left
  old_right : (f : Formula) → AreLast olds f instants → EachPart Old 0 f
  old_right f last = by instants refl last
    where
      by : (rows : List (List Bool)) → rows ≡ instants → AreLast olds f rows → EachPart Old 0 f
      by [] e none = each_all Old (λ k g. (λ h. let z = none k in absurd (cc), λ h. let l = ap length e in absurd (omega (arith, h.1, l)))) 0 f
      by (r ∷ more) e some =
          let s : length (r ∷ more) ≡ length instants = ap length e in
          let l : length instants ≡ length more + 1 = omega (arith, s) in
          let lt : length more < n = omega (arith, l) in
          let same : (k i : ℕ) → Unit {0} → i < n → signals_of instants k i ≡ S k i = λ k i u h. ap (λ row. get_or row k false) (sym (get_or-append instants (now ∷ []) [] i h)) in
          let was : (g : Formula) → Sat (signals_of (r ∷ more)) g (length more) ↔ Sat S g (length more) =
          λ g. subst (λ z. Sat (signals_of z) g (length more) ↔ Sat S g (length more)) (sym e) (sat_alike (λ k. Unit {0}) n (signals_of instants) S same g (uses_any g) (length more) lt) in
          each_map (λ k g. IsTrue (at olds k) ↔ Sat (signals_of (r ∷ more)) g (length more)) Old
          (λ k g h. (
            λ x. (length more, l, (was g).0 (h.0 x)),
            λ x. let j : x.0 ≡ length more = omega (arith, l, x.1) in h.1 ((was g).1 (subst (Sat S g) j x.2)),
          )) 0 f some

last_of : (vs : List Bool) (f : Formula) (n : ℕ) (rows : List (List Bool)) → length rows ≡ n + 1 → EachPart (λ k g. IsTrue (at vs k) ↔ Sat (signals_of rows) g n) 0 f → AreLast vs f rows
last_of vs f n [] l e = absurd (omega (arith, l))
last_of vs f n (r ∷ more) l e = let s : n ≡ length more = omega (arith, l) in subst (λ m. EachPart (λ k g. IsTrue (at vs k) ↔ Sat (signals_of (r ∷ more)) g m) 0 f) s e

some_at_end : (rows : List (List Bool)) (now : List Bool) → is_some (rows ++ now ∷ []) ≡ true
some_at_end [] now = refl
some_at_end (r ∷ more) now = refl

-- the monitor stands for one more instant, and tells whether the formula holds
module _ (m m' : Watching) (f : Formula) (instants : List (List Bool)) (now : List Bool) (stands : MonitorStands m f instants) (turned : Turned m.parts m.began now m.values m'.values (length m.parts)) where
  as_many : length m.parts ≡ part_count f
  as_many = ap length stands.parts ∙ length_parts 0 f

  news : EachPart (New instants now m.began m.values m'.values stands.began) 0 f
  news =
      let has : EachPart (HasPart m.parts) 0 f = has_parts m.parts [] [] 0 f refl (stands.parts ∙ sym (append-nil (parts_of 0 f))) in
      let low : 0 + part_count f ≤ length m.parts = omega (arith, as_many) in
      new_right instants now m.began m.values m'.values stands.began m.parts turned 0 f low has (old_right instants now m.began m.values m'.values stands.began f stands.last)

  pub stands_more : m'.parts ≡ m.parts → m'.began ≡ true → MonitorStands m' f (instants ++ now ∷ [])
  stands_more parts began =
      let l : length (instants ++ now ∷ []) ≡ length instants + 1 = length-append instants (now ∷ []) in
      record { parts = parts ∙ stands.parts; last = last_of m'.values f (length instants) (instants ++ now ∷ []) l news; began = began ∙ sym (some_at_end instants now) }

  pub tells : (b : Bool) → b ≡ prior m'.values (length m.parts) → IsTrue b ↔ Sat (signals_of (instants ++ now ∷ [])) f (length instants)
  tells b is =
      let one : 1 ≤ length m.parts = omega (arith, as_many, some_parts f) in
      let e : length m.parts - 1 ≡ top 0 f = omega (arith, as_many) in
      let v : b ≡ at m'.values (top 0 f) = is ∙ prior_at m'.values (length m.parts) one ∙ ap (at m'.values) e in
      let right = at_top (New instants now m.began m.values m'.values stands.began) 0 f news in
      (λ h. right.0 (subst IsTrue v h), λ h. subst IsTrue (sym v) (right.1 h))

-- a turn of equal parts and values
pub turned_at : (ps qs : List Part) (began : Bool) (now olds olds' news : List Bool) → ps ≡ qs → olds ≡ olds' → Turned ps began now olds news (length ps) → Turned qs began now olds' news (length qs)
turned_at ps qs began now olds olds' news e o t = subst (λ z. Turned qs began now z news (length qs)) o (subst (λ z. Turned z began now olds news (length z)) e t)
