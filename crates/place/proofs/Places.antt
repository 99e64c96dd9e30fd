-- A plan's place: it is what the plan gets alone, whatever the areas; there is one, and it has 130 bytes.
use mathlib.Core.Path.{◌≡◌, refl, sym, ap, ap₂, subst, ◌∙◌}
use mathlib.Core.Bool.{Bool, true, false, not, ◌||◌, true≢false}
use mathlib.Core.List.{List, [], ◌++◌, append-nil, append_assoc}
use Prim.Native.Nat.{ℕ, ◌+◌, ◌-◌, ◌≤◌, ◌<◌}
use native.Mathlib.Omega.{arith}
use lib.ListN.{length, take, drop, replicate, length-append, length-drop, length-replicate, length-map, take-append-drop, drop_of_length-le}
use lib.Seq.{take_at, drop_at, drop-drop, take_all, length-take-le}
use Rattle.job.specs.Offer.{run_entry}
use Rattle.std.specs.Prelude.{Ok, Err}
use Rattle.judge.specs.Verdict.{Answer, work_size, record_size, verdict_of, set_given}
use Rattle.judge.specs.Shown.{shown_entries, shown_run}
use Rattle.judge.specs.Judged.{cleared_work, with_record, work_after, RecordAfter, Judged}
use Rattle.judge.specs.Record.{record_for}
use Rattle.judge.specs.declared.Judgement.TheVariants.{Consistent, Violated}
use Rattle.judge.proofs.Plain.{given_small, one_answer}
use Rattle.judge.proofs.Some.{some_answer}
use Rattle.judge.proofs.Demand3.{found_answer}
use Rattle.place.specs.Place.{place_size, heading_of, place_of, zero_work, zero_record, Placed, record_shown, AsAlone, ByteByByte, BytesAre, OnePlace, SomePlace, PlaceLong, PlaceAfter, place_for}
use Rattle.place.specs.Work.{clears_work, work_left}

none_left : (n : ℕ) (l : List ℕ) → length l ≤ n → drop n l ≡ []
none_left n l h = drop_of_length-le l h

pub work_long : length zero_work ≡ work_size
work_long = length-replicate {A = ℕ} work_size 0

pub record_long : length zero_record ≡ record_size
record_long = length-replicate {A = ℕ} record_size 0

work_cleared : zero_work ≡ cleared_work zero_work
work_cleared =
    let e = work_long in
    sym (ap (λ (r : List ℕ). zero_work ++ r) (none_left work_size zero_work (omega arith)) ∙ append-nil zero_work)

with_zero : (bytes : List ℕ) → with_record bytes zero_record ≡ bytes
with_zero bytes =
    let e = record_long in
    ap (λ (r : List ℕ). bytes ++ r) (none_left record_size zero_record (omega arith)) ∙ append-nil bytes

work_kept : (v : Answer) → zero_work ≡ work_after v zero_work
work_kept (Ok j) = work_cleared
work_kept (Err r) = refl

-- what a verdict leaves of the work area; cleared twice it is as cleared once
pub left_after : (v : Answer) (work : List ℕ) → work_after v work ≡ work_left (clears_work v) work
left_after (Ok j) work = refl
left_after (Err r) work = refl

cleared_twice : (work : List ℕ) → cleared_work (cleared_work work) ≡ cleared_work work
cleared_twice work = ap (λ (r : List ℕ). zero_work ++ r) (drop_at zero_work (drop work_size work) work_size work_long)

pub left_more : (a b : Bool) (work : List ℕ) → work_left b (work_left a work) ≡ work_left (a || b) work
left_more true true work = cleared_twice work
left_more true false work = refl
left_more false true work = refl
left_more false false work = refl

-- over lists that are variables: of the zeros the checker would count each
cleared_as_long : (front rest work : List ℕ) (n : ℕ) → length front ≡ n → length rest ≡ length work - n → n ≤ length work → length (front ++ rest) ≡ length work
cleared_as_long front rest work n e d h = length-append front rest ∙ omega arith

cleared_long : (work : List ℕ) → work_size ≤ length work → length (cleared_work work) ≡ length work
cleared_long work h = cleared_as_long zero_work (drop work_size work) work work_size work_long (length-drop work_size work) h

pub left_long : (a : Bool) (work : List ℕ) → work_size ≤ length work → length (work_left a work) ≡ length work
left_long true work h = cleared_long work h
left_long false work h = refl

pub not_cleared : (a : Bool) (work : List ℕ) → not a ≡ true → work_left a work ≡ work
not_cleared true work e = absurd (true≢false (sym e))
not_cleared false work e = refl

pub is_cleared : (a : Bool) (work : List ℕ) → not a ≡ false → work_left a work ≡ cleared_work work
is_cleared true work e = refl
is_cleared false work e = absurd (true≢false e)

module _ (f : List ℕ) where
  -- the record bytes, in an area of their own
  module _ (old new : List ℕ) where
    shown_after : (v : Answer) → RecordAfter f v old new → RecordAfter f v zero_record (record_shown v new)
    shown_after (Ok Consistent) e = ap (take record_size) e ∙ take_at zero_record (drop record_size old) record_size record_long ∙ sym (with_zero zero_record)
    shown_after (Ok (Violated set)) r = record {
      layout = r.layout;
      accepted = r.accepted;
      bytes = r.bytes;
      shows = r.shows;
      is = ap (take record_size) r.is ∙ take_at r.bytes (drop record_size old) record_size r.shows.long ∙ sym (with_zero r.bytes);
    }
    shown_after (Err why) e = refl

    -- where the area began with zeros, they are what it begins with
    pub shown_first : take record_size old ≡ zero_record → (v : Answer) → RecordAfter f v old new → (record_shown v new ≡ take record_size new) × (new ≡ take record_size new ++ drop record_size old)
    shown_first z (Ok Consistent) e =
        let front : take record_size new ≡ zero_record = ap (take record_size) e ∙ take_at zero_record (drop record_size old) record_size record_long in
        (refl, e ∙ ap (λ (b : List ℕ). b ++ drop record_size old) (sym front))
    shown_first z (Ok (Violated set)) r =
        let front : take record_size new ≡ r.bytes = ap (take record_size) r.is ∙ take_at r.bytes (drop record_size old) record_size r.shows.long in
        (refl, r.is ∙ ap (λ (b : List ℕ). b ++ drop record_size old) (sym front))
    shown_first z (Err why) e = (sym (ap (take record_size) e ∙ z), e ∙ sym (take-append-drop record_size old) ∙ ap (λ (b : List ℕ). take record_size b ++ drop record_size old) (sym e))

  -- the verdict alone
  pub judged_alone : (work work' old new : List ℕ) (v : Answer) → Judged f work work' old new v → work_size ≤ length work → record_size ≤ length old → Judged f zero_work zero_work zero_record (record_shown v new) v
  judged_alone work work' old new v j enough room =
      let w = work_long in
      let r = record_long in
      record {
        answer = j.answer ∙ found_answer f (length work) (length old) enough room ∙ sym (found_answer f (length zero_work) (length zero_record) (omega arith) (omega arith));
        area_after = work_kept v;
        record_after = shown_after old new v j.record_after;
      }

  -- the set fits its two bytes
  pub set_fits : (v : Answer) (old new : List ℕ) → RecordAfter f v old new → set_given v < 65536
  set_fits (Ok Consistent) old new e = omega arith
  set_fits (Ok (Violated set)) old new r = omega (arith, given_small f old new set r)
  set_fits (Err why) old new e = omega arith

  -- the record bytes are 126
  shown_long : (v : Answer) (shown : List ℕ) → RecordAfter f v zero_record shown → length shown ≡ record_size
  shown_long (Ok Consistent) shown e = ap length (e ∙ with_zero zero_record) ∙ record_long
  shown_long (Ok (Violated set)) shown r = ap length (r.is ∙ with_zero r.bytes) ∙ r.shows.long
  shown_long (Err why) shown e = ap length e ∙ record_long

  -- there is a place for every file: the one that is computed
  pub place_for_lem : Placed f (place_for f)
  place_for_lem =
      let v : verdict_of f work_size record_size ≡ verdict_of f (length zero_work) (length zero_record) = ap₂ (verdict_of f) (sym work_long) (sym record_long) in
      record {
        verdict = verdict_of f (length zero_work) (length zero_record);
        shown = record_for f (verdict_of f (length zero_work) (length zero_record)) zero_record;
        alone = subst (λ (w : List ℕ). Judged f zero_work w zero_record (record_for f (verdict_of f (length zero_work) (length zero_record)) zero_record) (verdict_of f (length zero_work) (length zero_record)))
            (sym (work_kept (verdict_of f (length zero_work) (length zero_record)))) (some_answer f zero_work zero_record);
        is = ap (λ (x : Answer). place_of x (record_for f x zero_record)) v;
      }

pub as_alone : AsAlone
as_alone f place p work work' old new v j enough room =
    let e = one_answer f zero_work zero_work zero_work zero_record p.shown (record_shown v new) p.verdict v p.alone (judged_alone f work work' old new v j enough room) in
    p.is ∙ ap₂ place_of e.answers e.records

-- no entry is shown in zeros
none_shown : length (shown_entries zero_record) ≡ 0
unfolding shown_entries
none_shown = refl

bytes_for : (f shown : List ℕ) (v : Answer) → RecordAfter f v zero_record shown → ByteByByte f v (place_of v shown)
bytes_for f shown (Ok Consistent) e = ap (λ (b : List ℕ). place_of (Ok Consistent) b) (e ∙ with_zero zero_record) ∙ ap (λ (n : ℕ). heading_of (Ok Consistent) n ++ zero_record) none_shown
bytes_for f shown (Ok (Violated set)) r =
    let b : shown ≡ r.bytes = r.is ∙ with_zero r.bytes in
    let n : length (shown_entries r.bytes) ≡ length (shown_run r.bytes) = sym (length-map (shown_entries r.bytes) run_entry) in
    record {
      layout = r.layout;
      accepted = r.accepted;
      run = shown_run r.bytes;
      plainest = r.shows.plainest;
      is = ap (λ (x : List ℕ). place_of (Ok (Violated set)) x) b ∙ ap₂ (λ (k : ℕ) (x : List ℕ). heading_of (Ok (Violated set)) k ++ x) n r.shows.padded;
    }
bytes_for f shown (Err why) e = ap (λ (b : List ℕ). place_of (Err why) b) e ∙ ap (λ (n : ℕ). heading_of (Err why) n ++ zero_record) none_shown

pub bytes_are : BytesAre
bytes_are f p x = subst (λ (b : List ℕ). ByteByByte f x.verdict b) (sym x.is) (bytes_for f x.shown x.verdict x.alone.record_after)

pub one_place : OnePlace
one_place f p q x y =
    let e = one_answer f zero_work zero_work zero_work zero_record x.shown y.shown x.verdict y.verdict x.alone y.alone in
    x.is ∙ ap₂ place_of e.answers e.records ∙ sym y.is

pub some_place : SomePlace
some_place f = (place_for f, place_for_lem f)

pub heading_long : (v : Answer) (n : ℕ) → length (heading_of v n) ≡ 4
heading_long (Ok Consistent) n = refl
heading_long (Ok (Violated set)) n = refl
heading_long (Err why) n = refl

pub placed_long : PlaceLong
placed_long f p x =
    let h = heading_long x.verdict (length (shown_entries x.shown)) in
    let s = shown_long f x.verdict x.shown x.alone.record_after in
    ap length x.is ∙ length-append (heading_of x.verdict (length (shown_entries x.shown))) x.shown ∙ omega arith

-- a place is filled: its record bytes cleared, the verdict written over them, and then its first four bytes
module _ (f part zeros work work' new : List ℕ) (v : Answer) (enough : work_size ≤ length work) (room : place_size ≤ length part) (none : zeros ≡ zero_record) where
  abbrev zeroed : List ℕ
  zeroed = take 4 part ++ (zeros ++ drop record_size (drop 4 part))

  abbrev lent : List ℕ
  lent = take (length zeroed - 4) (drop 4 zeroed)

  abbrev back : List ℕ
  back = take 4 zeroed ++ (new ++ drop (length zeroed - 4) (drop 4 zeroed))

  zeroed_is : zeroed ≡ take 4 part ++ (zero_record ++ drop place_size part)
  zeroed_is = ap₂ (λ (x y : List ℕ). take 4 part ++ (x ++ y)) none (drop-drop record_size 4 part)

  front_long : length (take 4 part) ≡ 4
  front_long = length-take-le 4 part (omega arith)

  zeroed_rest : drop 4 zeroed ≡ zero_record ++ drop place_size part
  zeroed_rest = ap (drop 4) zeroed_is ∙ drop_at (take 4 part) (zero_record ++ drop place_size part) 4 front_long

  zeroed_front : take 4 zeroed ≡ take 4 part
  zeroed_front = ap (take 4) zeroed_is ∙ take_at (take 4 part) (zero_record ++ drop place_size part) 4 front_long

  pub lent_is : lent ≡ zero_record ++ drop place_size part
  lent_is = take_all (length zeroed - 4) (drop 4 zeroed) (omega (arith, length-drop 4 zeroed)) ∙ zeroed_rest

  pub lent_long : record_size ≤ length lent
  lent_long =
      let k = record_long in
      let e = ap length lent_is ∙ length-append zero_record (drop place_size part) in
      omega arith

  back_is : back ≡ take 4 part ++ new
  back_is = ap₂ (λ (x y : List ℕ). x ++ (new ++ y)) zeroed_front (none_left (length zeroed - 4) (drop 4 zeroed) (omega (arith, length-drop 4 zeroed))) ∙ ap (λ (x : List ℕ). take 4 part ++ x) (append-nil new)

  pub back_rest : drop 4 back ≡ new
  back_rest = ap (drop 4) back_is ∙ drop_at (take 4 part) new 4 front_long

  module _ (j : Judged f work work' lent new v) where
    first : take record_size lent ≡ zero_record
    first = ap (take record_size) lent_is ∙ take_at zero_record (drop place_size part) record_size record_long

    rest : drop record_size lent ≡ drop place_size part
    rest = ap (drop record_size) lent_is ∙ drop_at zero_record (drop place_size part) record_size record_long

    pub set_small : set_given v < 65536
    set_small = set_fits f v lent new j.record_after

    -- the verdict does not go by the areas' lengths
    pub verdict_is : v ≡ verdict_of f work_size record_size
    verdict_is = j.answer ∙ found_answer f (length work) (length lent) enough lent_long ∙ sym (found_answer f work_size record_size (omega arith) (omega arith))

    pub work_is : work' ≡ work_left (clears_work v) work
    work_is = j.area_after ∙ left_after v work

    pub filled : (n : ℕ) → n ≡ length (shown_entries (take record_size (drop 4 back))) → PlaceAfter f part (heading_of v n ++ drop 4 back)
    filled n e =
        let (shown_is, new_is) = shown_first f lent new first v j.record_after in
        let shown = record_shown v new in
        let count : n ≡ length (shown_entries shown) = e ∙ ap (λ (b : List ℕ). length (shown_entries (take record_size b))) back_rest ∙ ap (λ (b : List ℕ). length (shown_entries b)) (sym shown_is) in
        let tail : drop 4 back ≡ shown ++ drop place_size part = back_rest ∙ new_is ∙ ap₂ (λ (x y : List ℕ). x ++ y) (sym shown_is) rest in
        record {
          bytes = place_of v shown;
          placed = record { verdict = v; shown = shown; alone = judged_alone f work work' lent new v j enough lent_long; is = refl };
          is = ap₂ (λ (k : ℕ) (b : List ℕ). heading_of v k ++ b) count tail ∙ sym (append_assoc (heading_of v (length (shown_entries shown))) shown (drop place_size part));
        }
