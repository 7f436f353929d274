-- The steps by which versions are made.
use Rattle.std.proofs.Common.{◌≡◌, ℕ, zero, suc, ◌+◌, ◌-◌, ◌^◌, ◌<◌, ◌≤◌, Bool, true, false, List, [], ◌∷◌, length, set, get_or, All, Option, Some, None, refl, sym, ap, ◌∙◌, subst, arith, eqb-true}
use Rattle.std.specs.Prelude.{nat_eq, is_some}
use Rattle.std.proofs.lemmas.Bool.Decides.{nat_tests}
use Rattle.lt_base.specs.Program.{Function, GoodFunction, WholeProgram, GoodProgram}
use Rattle.lt_base.specs.Meaning.{function_of}
use Rattle.lt_base.specs.Dependence.{has}
use Rattle.lt_base.specs.Calls.{equations_called, function_called, CallsFunction}
use Rattle.lt_base.specs.Checked.{EachUse, CheckedProgram}
use Rattle.lt_base.proofs.Lookups.{same_self}
use Rattle.lt_base.proofs.Reading.{or_left, or_right}
use Rattle.lt_expand.specs.Copies.{Library, equations_grown, with_copies, function_or_none, expanded}
use Rattle.lt_expand.specs.Walk.{NestsWithin, made_of, library_of, IsMade, Copyable, AreVersions, KeepsVersions}
use Rattle.lt_expand.proofs.Expanded.{called_inside}
use Rattle.lt_expand.proofs.Made.{called_smaller, opened_is, opened_good, all_copyable, room_for}
use Rattle.lt_expand.proofs.Versions.{is_made, made_still, keeps_all, keeps_more, kept_over, all_made, set_are, set_made}

-- ---- what is read

pub function_read : (fs : List Function) (g : ℕ) (f : Function) → g < length fs → f ≡ get_or fs g f → function_of fs g ≡ Some f
function_read [] g f l e = absurd (omega arith)
function_read (k ∷ fs) zero f l e = ap Some (sym e)
function_read (k ∷ fs) (suc g) f l e = function_read fs g f (omega arith) e

has_at : (hs : List ℕ) (i d : ℕ) → i < length hs → has (get_or hs i d) hs ≡ true
has_at [] i d l = absurd (omega arith)
has_at (h ∷ hs) zero d l = or_left (nat_eq h h) (has h hs) (same_self h)
has_at (h ∷ hs) (suc i) d l = or_right (nat_eq (get_or hs i d) h) (has (get_or hs i d) hs) (has_at hs i d (omega arith))

-- ---- a called function

module _ (fs : List Function) (g : ℕ) (f : Function) (e : function_of fs g ≡ Some f) (hs : List ℕ) (are : hs ≡ equations_called f.eqs) where
  pub called_at : (i d : ℕ) → i < length hs → CallsFunction fs g (get_or hs i d)
  called_at i d l = ap (λ o. has (get_or hs i d) (function_called o)) e ∙ ap (has (get_or hs i d)) (sym are) ∙ has_at hs i d l

  pub called_made : (versions : List (Option Function)) → ((k : ℕ) → k < length hs → IsMade versions (get_or hs k 0)) → (h : ℕ) → CallsFunction fs g h → IsMade versions h
  called_made versions m h c = all_made versions hs m h (ap (has h) are ∙ sym (ap (λ o. has h (function_called o)) e) ∙ c)

pub some_left : (fs : List Function) (left g : ℕ) → NestsWithin fs left g → 0 < left
some_left fs zero g w = elim w [ ]
some_left fs (suc n) g w = omega arith

pub within_called : (fs : List Function) (left g h : ℕ) → NestsWithin fs left g → CallsFunction fs g h → NestsWithin fs (left - 1) h
within_called fs zero g h w c = elim w [ ]
within_called fs (suc n) g h w c = let e : n ≡ suc n - 1 = omega arith in subst (λ k. NestsWithin fs k h) e (w h c)

pub room_called : (fs : List Function) (left g : ℕ) (f : Function) → function_of fs g ≡ Some f → NestsWithin fs left g → (h : ℕ) → CallsFunction fs g h → length (expanded fs left g).decls < 2 ^ 32 → length (expanded fs (left - 1) h).decls < 2 ^ 32
room_called fs zero g f e w h c r = elim w [ ]
room_called fs (suc n) g f e w h c r =
    let q : n ≡ suc n - 1 = omega arith in
    let l = called_smaller fs n g f e h c in
    subst (λ k. length (expanded fs k h).decls < 2 ^ 32) q (omega (arith, l, r))

-- ---- the function itself

module _ (p : WholeProgram) (good : GoodProgram p) (checked : CheckedProgram p) (versions : List (Option Function)) (are : AreVersions p.funcs versions) (g : ℕ) (f : Function) (e : function_of p.funcs g ≡ Some f) (made : (h : ℕ) → CallsFunction p.funcs g h → IsMade versions h) where
  abbrev fs : List Function
  fs = p.funcs

  pub version_made : (n : ℕ) → NestsWithin fs n g → with_copies (library_of versions) f ≡ expanded fs n g
  version_made zero w = elim w [ ]
  version_made (suc n) w = opened_is p good checked versions are n g f e w made

  pub version_good : (n : ℕ) → NestsWithin fs n g → GoodFunction (with_copies (library_of versions) f)
  version_good zero w = elim w [ ]
  version_good (suc n) w = opened_good p good checked versions are n g f e w made

  pub version_ready : (n : ℕ) → NestsWithin fs n g → All (λ q. EachUse (λ h k. Copyable versions h k) q.1) f.eqs
  version_ready zero w = elim w [ ]
  version_ready (suc n) w = all_copyable p good checked versions are n g f e w made

  pub version_room : (n : ℕ) → NestsWithin fs n g → length (expanded fs n g).decls < 2 ^ 32 → length f.decls + equations_grown (library_of versions) f.eqs < 2 ^ 32
  version_room zero w r = elim w [ ]
  version_room (suc n) w r = let l = room_for p good checked versions are n g f e w made in omega (arith, l, r)

  -- once it is made
  pub now_are : (F : Function) (after : List (Option Function)) → F ≡ with_copies (library_of versions) f → g < length versions → after ≡ set versions g (Some F) → AreVersions fs after
  now_are F after is l s = subst (AreVersions fs) (sym s) (set_are versions g F l fs are (λ n w. is ∙ version_made n w))

-- ---- what is read of the versions

any_default : {A : Type 0} (xs : List A) (i : ℕ) (d e : A) → i < length xs → get_or xs i d ≡ get_or xs i e
any_default [] i d e l = absurd (omega arith)
any_default (x ∷ xs) zero d e l = refl
any_default (x ∷ xs) (suc i) d e l = any_default xs i d e (omega arith)

none_from : (o : Option Function) → is_some o ≡ false → o ≡ None
none_from None t = refl
none_from (Some F) t = absurd (cc)

some_from : (o : Option Function) → is_some o ≡ true → o ≡ Some (function_or_none o)
some_from None t = absurd (cc)
some_from (Some F) t = refl

module _ (versions : List (Option Function)) (g : ℕ) (inside : g < length versions) (o : Option Function) (read : o ≡ get_or versions g o) (b : Bool) (told : b ≡ is_some o) where
  made_read : made_of versions g ≡ o
  made_read = any_default versions g None o inside ∙ sym read

  none_read : b ≡ false → made_of versions g ≡ None
  none_read f = made_read ∙ none_from o (sym told ∙ f)

  some_read : b ≡ true → IsMade versions g
  some_read t = is_made versions g (function_or_none o) (made_read ∙ some_from o (sym told ∙ t))

-- what is put there is there
now_made : (versions after : List (Option Function)) (g : ℕ) (F : Function) → g < length versions → after ≡ set versions g (Some F) → IsMade after g
now_made versions after g F l s = subst (λ v. IsMade v g) (sym s) (set_made versions g F l)

-- ---- one turn of the loop over the called functions

made_next : (before after : List (Option Function)) (hs : List ℕ) (i : ℕ) → KeepsVersions before after → ((k : ℕ) → k < i → IsMade before (get_or hs k 0)) → IsMade after (get_or hs i 0) → (k : ℕ) → k < i + 1 → IsMade after (get_or hs k 0)
made_next before after hs i kept m here k l = go (nat_eq k i) refl
  where
    below : (k i : ℕ) → k < i + 1 → nat_eq k i ≡ false → k < i
    below k i l t = grind (arith, nat_tests)

    go : (t : Bool) → nat_eq k i ≡ t → IsMade after (get_or hs k 0)
    go true t = subst (λ j. IsMade after (get_or hs j 0)) (sym (eqb-true k i t)) here
    go false t = made_still before after kept (get_or hs k 0) (m k (below k i l t))

-- what the loop has made of the called functions
pub record Reached (fs : List Function) (first : List (Option Function)) (hs : List ℕ) (i : ℕ) (versions : List (Option Function)) : Type 0 where
  pub are : AreVersions fs versions
  pub kept : KeepsVersions first versions
  pub made : (k : ℕ) → k < i → IsMade versions (get_or hs k 0)

-- ---- the called functions

pub function_at : (p P : WholeProgram) → P ≡ p → (items : List Function) → items ≡ P.funcs → (g : ℕ) (f : Function) → g < length p.funcs → f ≡ get_or items g f → function_of p.funcs g ≡ Some f
function_at p P view items are g f l read = function_read p.funcs g f l (read ∙ ap (λ z. get_or z g f) (are ∙ ap (λ (P : WholeProgram). P.funcs) view))

-- function g of a program, in which fewer than that many calls nest, and the functions that it calls
pub record Calling (p : WholeProgram) (left g : ℕ) (f : Function) (hs : List ℕ) : Type 0 where
  pub good : GoodProgram p
  pub checked : CheckedProgram p
  pub within : NestsWithin p.funcs left g
  pub found : function_of p.funcs g ≡ Some f
  pub called : hs ≡ equations_called f.eqs

pub calling : (p : WholeProgram) → GoodProgram p → CheckedProgram p → (left g : ℕ) → NestsWithin p.funcs left g → g < length p.funcs → (P : WholeProgram) → P ≡ p → (items : List Function) → items ≡ P.funcs → (f : Function) → f ≡ get_or items g f → (called hs : List ℕ) → called ≡ equations_called f.eqs → hs ≡ called → Calling p left g f hs
calling p good checked left g within number P view items are f read called hs c h = record {
  good = good;
  checked = checked;
  within = within;
  found = function_at p P view items are g f number read;
  called = h ∙ c;
}

-- one of them
module _ (p : WholeProgram) (left g : ℕ) (f : Function) (hs : List ℕ) (k : Calling p left g f hs) (i : ℕ) (inside : i < length hs) where
  abbrev h : ℕ
  h = get_or hs i 0

  next_called : CallsFunction p.funcs g h
  next_called = called_at p.funcs g f k.found hs k.called i 0 inside

  pub next_inside : h < length p.funcs
  next_inside = called_inside p k.good k.checked g h next_called

  pub next_number : (versions : List (Option Function)) → AreVersions p.funcs versions → h < length versions
  next_number versions are = let n = are.all in let l = next_inside in omega (arith, n, l)

  pub next_left : 0 < left
  next_left = some_left p.funcs left g k.within

  pub next_within : NestsWithin p.funcs (left - 1) h
  next_within = within_called p.funcs left g h k.within next_called

  pub next_room : length (expanded p.funcs left g).decls < 2 ^ 32 → length (expanded p.funcs (left - 1) h).decls < 2 ^ 32
  next_room room = room_called p.funcs left g f k.found k.within h next_called room

  module _ (first versions : List (Option Function)) (r : Reached p.funcs first hs i versions) (o : Option Function) (read : o ≡ get_or versions h o) (b : Bool) (told : b ≡ is_some o) where
    -- it is there already
    pub reached_more : b ≡ true → Reached p.funcs first hs (i + 1) versions
    reached_more t = record {
      are = r.are;
      kept = r.kept;
      made = made_next versions versions hs i (keeps_all versions) r.made (some_read versions h (next_number versions r.are) o read b told t);
    }

    -- or those that it calls were made, and then it
    module _ (between : List (Option Function)) (are : AreVersions p.funcs between) (kept : KeepsVersions versions between) (made : (x : ℕ) → CallsFunction p.funcs h x → IsMade between x) (P : WholeProgram) (view : P ≡ p) (items : List Function) (items_are : items ≡ P.funcs) (F : Function) (there : F ≡ get_or items h F) where
      abbrev lib : Library
      lib = library_of between

      found_next : function_of p.funcs h ≡ Some F
      found_next = function_at p P view items items_are h F next_inside there

      pub next_good : GoodFunction (with_copies lib F)
      next_good = version_good p k.good k.checked between are h F found_next made (left - 1) next_within

      pub next_ready : All (λ q. EachUse (λ x n. Copyable between x n) q.1) F.eqs
      next_ready = version_ready p k.good k.checked between are h F found_next made (left - 1) next_within

      pub next_fits : length (expanded p.funcs left g).decls < 2 ^ 32 → length F.decls + equations_grown lib F.eqs < 2 ^ 32
      next_fits room = version_room p k.good k.checked between are h F found_next made (left - 1) next_within (next_room room)

      pub reached_next : b ≡ false → (after : List (Option Function)) → after ≡ set between h (Some (with_copies lib F)) → Reached p.funcs first hs (i + 1) after
      reached_next t after s =
          let l = next_number between are in
          let none = none_read versions h (next_number versions r.are) o read b told t in
          let over = kept_over versions between after h (with_copies lib F) l kept none s in
          record {
            are = now_are p k.good k.checked between are h F found_next made (with_copies lib F) after refl l s;
            kept = keeps_more first versions after r.kept over;
            made = made_next versions after hs i over r.made (now_made between after h (with_copies lib F) l s);
          }

-- all of them
pub reached_all : (p : WholeProgram) (left g : ℕ) (f : Function) (hs : List ℕ) → Calling p left g f hs → (first : List (Option Function)) (i : ℕ) (versions : List (Option Function)) → Reached p.funcs first hs i versions → length hs ≤ i → (h : ℕ) → CallsFunction p.funcs g h → IsMade versions h
reached_all p left g f hs k first i versions r l =
    called_made p.funcs g f k.found hs k.called versions (λ j m. r.made j (omega (arith, l, m)))
