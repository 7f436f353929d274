-- Every checked program has an expansion.
use Rattle.std.proofs.Common.{◌≡◌, ℕ, zero, suc, List, ◌++◌, length, All, Option, Some, None, refl, sym, ap, ◌∙◌}
use Rattle.std.specs.List.{range_with_len}
use Rattle.lt_base.specs.Program.{Function}
use Rattle.lt_base.specs.Meaning.{clock_of, function_of, calls}
use Rattle.lt_base.specs.Dependence.{has}
use Rattle.lt_base.specs.Calls.{EachCall, function_called, CallsFunction}
use Rattle.lt_base.proofs.Lookups.{all_found}
use Rattle.lt_expand.specs.Copies.{opened_or, expanded, expansion}
use Rattle.lt_expand.specs.Expansion.{ProgramsExpand, copied_origins}
use Rattle.lt_expand.specs.Walk.{NestsWithin}
use Rattle.lt_expand.proofs.Basics.{all_equations}
use Rattle.lt_expand.proofs.Clocks.{clocked_callless}
use Rattle.lt_expand.proofs.Alike.{Same, opened_alike}
use Rattle.lt_expand.proofs.Expanded.{Expands, expands, streams_kept, within_all, called_inside}
use Rattle.lt_expand.proofs.Weights.{expanded_weight}
use Rattle.lt_expand.proofs.Parts.{expanded_parts}
use Rattle.lt_expand.proofs.Made.{right_in, owners_are}
use Rattle.lt_expand.proofs.Whole.{opened_variables}

-- past the calls that nest in a function its version stays the same
stable_by : (fs : List Function) (n m h : ℕ) → ((i : ℕ) → CallsFunction fs h i → expanded fs n i ≡ expanded fs m i) → (o : Option Function) → function_of fs h ≡ o → opened_or (expanded fs n) o ≡ opened_or (expanded fs m) o
stable_by fs n m h ih None e = refl
stable_by fs n m h ih (Some f) e =
    opened_alike (expanded fs n) (expanded fs m) f (right_in f.eqs (Same (expanded fs n) (expanded fs m)) (λ i k. ih i (ap (λ o. has i (function_called o)) e ∙ k)))

pub stable : (fs : List Function) (n m h : ℕ) → NestsWithin fs n h → NestsWithin fs m h → expanded fs n h ≡ expanded fs m h
stable fs zero m h w v = elim w [ ]
stable fs (suc n) zero h w v = elim v [ ]
stable fs (suc n) (suc m) h w v = stable_by fs n m h (λ i c. stable fs n m i (w i c) (v i c)) (function_of fs h) refl

pub programs_expand : ProgramsExpand
programs_expand p good checked f e =
    let fs = p.funcs in
    let n = length fs in
    let within : NestsWithin fs n p.main = within_all p good checked p.main good.main in
    let x : Expands (calls fs n) (expansion p) f = expands p good checked n p.main f e within in
    record {
      main = f;
      found = e;
      keeps = record {
        name = x.name;
        inputs = x.inputs;
        outputs = x.outputs;
        more = x.more;
        declarations = x.declarations;
        callless = all_equations (λ y a. EachCall (λ g. ⊥) a) (expansion p) (expansion p).eqs (all_found (expansion p) x.good) (λ y a h. clocked_callless (expansion p).decls a (clock_of (expansion p).decls y) (x.clocked.rights y a h));
        streams = streams_kept p good checked (expansion p) f p.main e x;
        typed = x.typed;
        clocked = x.clocked;
        causal = x.causal;
        origins = refl;
        each = origins_count n refl within;
      };
      weight = expanded_weight fs n p.main;
      parts = expanded_parts fs n p.main;
    }
  where
    origins_count : (k : ℕ) → length p.funcs ≡ k → NestsWithin p.funcs k p.main → length (range_with_len 0 (length f.decls) ++ copied_origins p.funcs f.eqs) ≡ length (expanded p.funcs k p.main).decls
    origins_count zero q w = elim w [ ]
    origins_count (suc k) q w =
        let fs = p.funcs in
        let lib = expanded fs k in
        let same : All (λ q. EachCall (Same lib (expanded fs (length fs))) q.1) f.eqs =
        right_in f.eqs (Same lib (expanded fs (length fs))) (λ h m.
        let c : CallsFunction fs p.main h = ap (λ o. has h (function_called o)) e ∙ m in
        stable fs k (length fs) h (w h c) (within_all p good checked h (called_inside p good checked p.main h c))) in
        ap (λ l. length (range_with_len 0 (length f.decls) ++ l)) (sym (owners_are fs lib f.eqs same))
        ∙ opened_variables lib f
        ∙ ap (λ o. length (opened_or lib o).decls) (sym e)
