-- The first miss of a list, by the events in their order.
use Rattle.std.proofs.Common.{◌≡◌, ◌≢◌, ◌∙◌, ℕ, zero, suc, ◌+◌, ◌-◌, ◌^◌, ◌<◌, ◌≤◌, ◌⊎◌, ◌==◌, ◌&&◌, not, Bool, true, false, List, [], ◌∷◌, ◌++◌, length, Option, Some, None, if◌then◌else◌, refl, sym, ap, subst, inl, inr, arith, eq-eqb, ne_eqb, lt-ltb, le-ltb, min}
use Rattle.std.specs.Prelude.{option_map}
use Rattle.std.specs.Option.{option_or}
use Rattle.std.proofs.Math.Nat.{min-eq_left, min-eq_right}
use Rattle.std.proofs.lemmas.Bool.{cases_lt, false≢true}
use Rattle.lt_arch.specs.declared.event.Deed.{Deed}
use Rattle.lt_arch.specs.declared.event.Deed.TheVariants.{Nothing, Execute, Send}
use Rattle.lt_arch.specs.declared.event.Event.{Event}
use Rattle.lt_arch.specs.declared.event.Event.TheVariants.{Act, Del, End}
use Rattle.lt_arch.specs.declared.shape.Shape.{Shape}
use Rattle.lt_arch.specs.declared.timing.Timing.{Timing}
use Rattle.lt_arch.specs.State.{State, start, executed_of}
use Rattle.lt_arch.specs.Readers.{chan_count}
use Rattle.lt_arch.specs.Deeds.{data_to, deed_at}
use Rattle.lt_arch.specs.Schedule.{after_all}
use Rattle.lt_arch.specs.Step.{after, is_execute}
use Rattle.lt_audit.specs.declared.miss.Miss.{Miss}
use Rattle.lt_audit.specs.Audit.{AuditState}
use Rattle.lt_audit.specs.Misses.{FirstMiss, IsExecution, IsOff, Misses}
use Rattle.lt_audit.specs.Standing.{AuditStands}
use Rattle.lt_course.specs.Missed.{counts_off, first_miss, first_miss_from, lowest_below, miss_at, miss_of}
use Rattle.lt_course.specs.Laws.{TellsFirstMiss}

-- the lowest number that has a property

module _ (has : ℕ → Bool) where
  pub lowest_none : (k : ℕ) → ((c : ℕ) → c < k → has c ≡ false) → lowest_below has k ≡ None
  lowest_none zero none = refl
  lowest_none (suc k) none =
      let here : has k ≡ false = none k (omega arith) in
      let before : lowest_below has k ≡ None = lowest_none k (λ c lt. none c (omega (arith, lt))) in
      λ i. option_or (before i) (if here i then Some k else None)

  pub lowest_some : (k c : ℕ) → c < k → has c ≡ true → ((d : ℕ) → d < c → has d ≡ false) → lowest_below has k ≡ Some c
  lowest_some zero c lt is none = absurd (omega (arith, lt))
  lowest_some (suc k) c lt is none = elim (cases_lt c k) [
    | inl less ↦ ap (λ (o : Option ℕ). option_or o (if has k then Some k else None)) (lowest_some k c less is none)
    | inr le ↦
        let same : k ≡ c = omega (arith, lt, le) in
        let before : lowest_below has k ≡ None = lowest_none k (λ d ld. none d (omega (arith, ld, same))) in
        let here : has k ≡ true = ap has same ∙ is in
        (λ i. option_or (before i) (if here i then Some k else None)) ∙ ap (λ (d : ℕ). Some d) same
  ]

  -- what a lowest number, or none, tells
  abbrev pub IsLowestHaving : (k : ℕ) → Option ℕ → Type 0
  IsLowestHaving k None = (c : ℕ) → c < k → has c ≡ false
  IsLowestHaving k (Some c) = (c < k) × (has c ≡ true) × ((d : ℕ) → d < c → has d ≡ false)

  lowest_step : (k : ℕ) (before : Option ℕ) (here : Bool) → has k ≡ here → IsLowestHaving k before → IsLowestHaving (suc k) (option_or before (if here then Some k else None))
  lowest_step k (Some c) here is low = (omega (arith, low.0), low.1, low.2)
  lowest_step k None true is low = (omega arith, is, low)
  lowest_step k None false is low = λ c lt. elim (cases_lt c k) [
    | inl less ↦ low c less
    | inr le ↦ let same : c ≡ k = omega (arith, lt, le) in ap has same ∙ is
  ]

  pub lowest_tells : (k : ℕ) → IsLowestHaving k (lowest_below has k)
  lowest_tells zero = λ c lt. absurd (omega (arith, lt))
  lowest_tells (suc k) = lowest_step k (lowest_below has k) (has k) refl (lowest_tells k)

both_hold : (a b : Bool) → (a && b) ≡ true → (a ≡ true) × (b ≡ true)
both_hold true b is = (refl, is)
both_hold false b is = absurd (false≢true is)

not_same : (x y : ℕ) → not (x == y) ≡ true → x ≢ y
not_same x y is same = false≢true (ap not (sym (eq-eqb x y same)) ∙ is)

never : (b : Bool) → (b ≡ true → ⊥) → b ≡ false
never true wrong = absurd (wrong refl)
never false wrong = refl

abbrev tail_of : {A : Type 0} → List A → List A
tail_of [] = []
tail_of (x ∷ xs) = xs

abbrev head_or : {A : Type 0} → A → List A → A
head_or d [] = d
head_or d (x ∷ xs) = x

not_nil : {A : Type 0} (front : List A) (y : A) (later : List A) → front ++ y ∷ later ≡ [] → ⊥
not_nil [] y later is = cc
not_nil (z ∷ front) y later is = cc

-- in one state

-- what is told of an execution at an event
pub record IsMissHere (s : Shape) (rows : ℕ) (st : State) (number : ℕ) (e : Event) (m : Miss) : Type 0 where
  pub event : m.event ≡ number
  pub executes : IsExecution s rows st e m.node
  pub instant : m.instant ≡ executed_of st m.node
  pub off : IsOff s st m.node m.channel
  pub lowest : (c : ℕ) → IsOff s st m.node c → m.channel ≤ c
  pub delivered : m.delivered ≡ (st.chan m.channel).delivered

abbrev pub MissHere : Shape → (rows : ℕ) → State → (number : ℕ) → Event → Option Miss → Type 0
MissHere s rows st number e None = Misses s rows st e → ⊥
MissHere s rows st number e (Some m) = IsMissHere s rows st number e m

module _ (s : Shape) (rows : ℕ) (st : State) (n : ℕ) where
  off_of : (c : ℕ) → c < chan_count s → counts_off s st n c ≡ true → IsOff s st n c
  off_of c lc is =
      let both = both_hold (data_to s n c) (not ((st.chan c).delivered == executed_of st n)) is in
      record { channel = lc; incoming = both.0; differs = not_same (st.chan c).delivered (executed_of st n) both.1 }

  off_counts : (c : ℕ) → IsOff s st n c → counts_off s st n c ≡ true
  off_counts c off = λ i. off.incoming i && ap not (ne_eqb (st.chan c).delivered (executed_of st n) off.differs) i

  on_counts : (c : ℕ) → (IsOff s st n c → ⊥) → c < chan_count s → counts_off s st n c ≡ false
  on_counts c on lc = never (counts_off s st n c) (λ is. on (off_of c lc is))

  abbrev low : Option ℕ
  low = lowest_below (counts_off s st n) (chan_count s)

  module _ (number at : ℕ) where
    told_none : (d : Deed) → deed_at s rows st n ≡ d → (Misses s rows st (Act n at) → ⊥) → (if is_execute d then option_map (miss_of st number n) low else None) ≡ None
    told_none Nothing is calm = refl
    told_none Send is calm = refl
    told_none Execute is calm =
        ap (option_map (miss_of st number n))
        (lowest_none (counts_off s st n) (chan_count s) (λ c lc. on_counts c (λ off. calm (record { node = n; executes = (refl, is); channel = c; off = off })) lc))

    told_some : (m : Miss) → IsMissHere s rows st number (Act n at) m → n ≡ m.node → deed_at s rows st n ≡ Execute → miss_at s rows st number (Act n at) ≡ Some m
    told_some m here node is =
        let off : IsOff s st n m.channel = subst (λ (k : ℕ). IsOff s st k m.channel) (sym node) here.off in
        let below : (d : ℕ) → d < m.channel → counts_off s st n d ≡ false = λ d ld. never (counts_off s st n d) (λ on. let le = here.lowest d (subst (λ (k : ℕ). IsOff s st k d) node (off_of d (let lc = off.channel in omega (arith, ld, lc)) on)) in omega (arith, ld, le)) in
        let found : low ≡ Some m.channel = lowest_some (counts_off s st n) (chan_count s) m.channel off.channel (off_counts m.channel off) below in
        (λ i. if is_execute (is i) then option_map (miss_of st number n) (found i) else None)
        ∙ (λ i. Some (record { event = sym here.event i; node = node i; instant = (ap (executed_of st) node ∙ sym here.instant) i; channel = m.channel; delivered = sym here.delivered i }))

    tells_by : (d : Deed) → deed_at s rows st n ≡ d → (o : Option ℕ) → IsLowestHaving (counts_off s st n) (chan_count s) o
        → MissHere s rows st number (Act n at) (if is_execute d then option_map (miss_of st number n) o else None)
    tells_by Nothing is o lowest = λ miss. let clash : Nothing ≡ Execute = sym is ∙ miss.executes.1 in absurd cc
    tells_by Send is o lowest = λ miss. let clash : Send ≡ Execute = sym is ∙ miss.executes.1 in absurd cc
    tells_by Execute is None lowest = λ miss.
        let off : IsOff s st n miss.channel = subst (λ (k : ℕ). IsOff s st k miss.channel) (sym miss.executes.0) miss.off in
        false≢true (sym (lowest miss.channel off.channel) ∙ off_counts miss.channel off)
    tells_by Execute is (Some c) lowest = record {
      event = refl;
      executes = (refl, is);
      instant = refl;
      off = off_of c lowest.0 lowest.1;
      lowest = λ d off. elim (cases_lt d c) [
        | inl less ↦ absurd (false≢true (sym (lowest.2 d less) ∙ off_counts d off))
        | inr le ↦ le
      ];
      delivered = refl;
    }

module _ (s : Shape) (rows : ℕ) (st : State) (number : ℕ) where
  -- what is right of an event is told of it
  pub told_here : (e : Event) (o : Option Miss) → MissHere s rows st number e o → miss_at s rows st number e ≡ o
  told_here (Act n at) None calm = told_none s rows st n number at (deed_at s rows st n) refl calm
  told_here (Act n at) (Some m) here = told_some s rows st n number at m here here.executes.0 here.executes.1
  told_here (Del c at) None calm = refl
  told_here (Del c at) (Some m) here = absurd here.executes
  told_here (End at) None calm = refl
  told_here (End at) (Some m) here = absurd here.executes

  -- and what is told is right
  pub tells_here : (e : Event) → MissHere s rows st number e (miss_at s rows st number e)
  tells_here (Act n at) = tells_by s rows st n number at (deed_at s rows st n) refl (lowest_below (counts_off s st n) (chan_count s)) (lowest_tells (counts_off s st n) (chan_count s))
  tells_here (Del c at) = λ miss. miss.executes
  tells_here (End at) = λ miss. miss.executes

-- along a list

abbrev HasNoneFrom : Shape → Timing → (rows : ℕ) → State → List Event → Type 0
HasNoneFrom s t rows st es = (front : List Event) (e : Event) (later : List Event) → es ≡ front ++ e ∷ later → Misses s rows (after_all s t rows st front) e → ⊥

record IsFirstFrom (s : Shape) (t : Timing) (rows : ℕ) (st : State) (number : ℕ) (es : List Event) (m : Miss) : Type 0 where
  front : List Event
  event : Event
  later : List Event
  list_is : es ≡ front ++ event ∷ later
  none_before : HasNoneFrom s t rows st front
  here : IsMissHere s rows (after_all s t rows st front) (number + length front) event m

abbrev FirstFrom : Shape → Timing → (rows : ℕ) → State → (number : ℕ) → List Event → Option Miss → Type 0
FirstFrom s t rows st number es None = HasNoneFrom s t rows st es
FirstFrom s t rows st number es (Some m) = IsFirstFrom s t rows st number es m

module _ (s : Shape) (t : Timing) (rows : ℕ) where
  nothing_told : (es : List Event) (st : State) (number : ℕ) → HasNoneFrom s t rows st es → first_miss_from s t rows st number es ≡ None
  nothing_told [] st number none = refl
  nothing_told (e ∷ es) st number none =
      λ i. option_or (told_here s rows st number e None (none [] e es refl) i)
      (nothing_told es (after s t rows st e) (number + 1) (λ front d later is. none (e ∷ front) d later (ap (λ (xs : List Event). e ∷ xs) is)) i)

  found_told : (front : List Event) (event : Event) (later : List Event) (st : State) (number : ℕ) (m : Miss) → HasNoneFrom s t rows st front → IsMissHere s rows (after_all s t rows st front) (number + length front) event m
      → first_miss_from s t rows st number (front ++ event ∷ later) ≡ Some m
  found_told [] event later st number m none here =
      let same : number + 0 ≡ number = omega arith in
      ap (λ (o : Option Miss). option_or o (first_miss_from s t rows (after s t rows st event) (number + 1) later))
      (told_here s rows st number event (Some m) (subst (λ (k : ℕ). IsMissHere s rows st k event m) same here))
  found_told (e ∷ front) event later st number m none here =
      let same : number + length (e ∷ front) ≡ number + 1 + length front = omega arith in
      λ i. option_or (told_here s rows st number e None (none [] e front refl) i)
      (found_told front event later (after s t rows st e) (number + 1) m (λ xs d ys is. none (e ∷ xs) d ys (ap (λ (zs : List Event). e ∷ zs) is))
      (subst (λ (k : ℕ). IsMissHere s rows (after_all s t rows (after s t rows st e) front) k event m) same here) i)

  none_more : (e : Event) (es : List Event) (st : State) → (Misses s rows st e → ⊥) → HasNoneFrom s t rows (after s t rows st e) es → HasNoneFrom s t rows st (e ∷ es)
  none_more e es st calm none [] d later is miss = calm (subst (λ (x : Event). Misses s rows st x) (ap (head_or e) (sym is)) miss)
  none_more e es st calm none (x ∷ front) d later is miss =
      none front d later (ap tail_of is) (subst (λ (y : Event). Misses s rows (after_all s t rows (after s t rows st y) front) d) (ap (head_or e) (sym is)) miss)

  tells_on : (e : Event) (es : List Event) (st : State) (number : ℕ) (o rest : Option Miss) → MissHere s rows st number e o → FirstFrom s t rows (after s t rows st e) (number + 1) es rest → FirstFrom s t rows st number (e ∷ es) (option_or o rest)
  tells_on e es st number None None here later = none_more e es st here later
  tells_on e es st number None (Some m) here later =
      let same : number + 1 + length later.front ≡ number + length (e ∷ later.front) = omega arith in
      record {
        front = e ∷ later.front;
        event = later.event;
        later = later.later;
        list_is = ap (λ (xs : List Event). e ∷ xs) later.list_is;
        none_before = none_more e later.front st here later.none_before;
        here = subst (λ (k : ℕ). IsMissHere s rows (after_all s t rows (after s t rows st e) later.front) k later.event m) same later.here;
      }
  tells_on e es st number (Some m) rest here later =
      let same : number ≡ number + 0 = omega arith in
      record {
        front = [];
        event = e;
        later = es;
        list_is = refl;
        none_before = λ front d ds is miss. not_nil front d ds (sym is);
        here = subst (λ (k : ℕ). IsMissHere s rows st k e m) same here;
      }

  tells_from : (es : List Event) (st : State) (number : ℕ) → FirstFrom s t rows st number es (first_miss_from s t rows st number es)
  tells_from [] st number = λ front d later is miss. not_nil front d later (sym is)
  tells_from (e ∷ es) st number = tells_on e es st number (miss_at s rows st number e) _ (tells_here s rows st number e) (tells_from es (after s t rows st e) (number + 1))

  -- from the start

  to_first : (es : List Event) (o : Option Miss) → FirstFrom s t rows (start t.protocol) 1 es o → FirstMiss s t rows es o
  to_first es None none = none
  to_first es (Some m) first =
      let same : 1 + length first.front ≡ length first.front + 1 = omega arith in
      record {
        front = first.front;
        event = first.event;
        later = first.later;
        list_is = first.list_is;
        none_before = first.none_before;
        number_is = first.here.event ∙ same;
        executes = first.here.executes;
        instant_is = first.here.instant;
        off = first.here.off;
        lowest = first.here.lowest;
        delivered_is = first.here.delivered;
      }

  -- the first miss is the one that is told
  determined_from : (es : List Event) (o : Option Miss) → FirstMiss s t rows es o → first_miss_from s t rows (start t.protocol) 1 es ≡ o
  determined_from es None none = nothing_told es (start t.protocol) 1 none
  determined_from es (Some m) first =
      let same : length first.front + 1 ≡ 1 + length first.front = omega arith in
      ap (first_miss_from s t rows (start t.protocol) 1) first.list_is
      ∙ found_told first.front first.event first.later (start t.protocol) 1 m first.none_before (record {
        event = first.number_is ∙ same;
        executes = first.executes;
        instant = first.instant_is;
        off = first.off;
        lowest = first.lowest;
        delivered = first.delivered_is;
      })

  within : (es : List Event) → length es < 2 ^ 32 - 1 → first_miss s t rows es ≡ first_miss_from s t rows (start t.protocol) 1 es
  within es few = ap (λ (b : Bool). if b then first_miss_from s t rows (start t.protocol) 1 es else None) (lt-ltb (length es) (2 ^ 32 - 1) few)

  pub miss_determined : (es : List Event) (o : Option Miss) → length es < 2 ^ 32 - 1 → FirstMiss s t rows es o → o ≡ first_miss s t rows es
  miss_determined es o few first = sym (within es few ∙ determined_from es o first)

  pub no_miss_beyond : (es : List Event) → 2 ^ 32 - 1 ≤ length es → None ≡ first_miss s t rows es
  no_miss_beyond es many = sym (ap (λ (b : Bool). if b then first_miss_from s t rows (start t.protocol) 1 es else None) (le-ltb (length es) (2 ^ 32 - 1) many))

pub told_first : TellsFirstMiss
told_first s t rows es few =
    subst (λ (o : Option Miss). FirstMiss s t rows es o) (sym (within s t rows es few)) (to_first s t rows es _ (tells_from s t rows es (start t.protocol) 1))

-- what an auditor knows

few_or_many : (n : ℕ) → ((n < 2 ^ 32 - 1) × (min n (2 ^ 32 - 1) ≡ n)) ⊎ ((2 ^ 32 - 1 ≤ n) × (min n (2 ^ 32 - 1) ≡ 2 ^ 32 - 1))
few_or_many n = elim (cases_lt n (2 ^ 32 - 1)) [ inl lt ↦ inl (lt, min-eq_left (omega (arith, lt))) | inr le ↦ inr (le, min-eq_right le) ]

module _ (a : AuditState) (s : Shape) (t : Timing) (rows : ℕ) (es : List Event) (stands : AuditStands a s t rows es) where
  pub known_miss : (o : Option Miss) → a.taken < 2 ^ 32 - 1 → FirstMiss s t rows es o → o ≡ first_miss s t rows es
  known_miss o few first = elim (few_or_many (length es)) [
    | inl less ↦ miss_determined s t rows es o less.0 first
    | inr many ↦ let taken = stands.taken_is in let all = many.1 in absurd (omega (arith, few, taken, all))
  ]

  pub unknown_miss : a.taken ≡ 2 ^ 32 - 1 → None ≡ first_miss s t rows es
  unknown_miss full = elim (few_or_many (length es)) [
    | inl less ↦ let taken = stands.taken_is in let here = less.0 in let all = less.1 in absurd (omega (arith, full, taken, here, all))
    | inr many ↦ no_miss_beyond s t rows es many.0
  ]
