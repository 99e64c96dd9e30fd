-- The promises on a class, each from the outcome that its contract admits: of one input there is one (`one_outcome`), which the conditions are shown by.
use mathlib.Core.Path.{◌≡◌, refl, sym, ap, ap₂, subst, ◌∙◌}
use mathlib.Core.List.{List, [], ◌∷◌, ◌++◌, map, append_assoc}
use Prim.Native.Nat.{ℕ, suc, ◌+◌, ◌*◌, ◌≤◌, ◌<◌}
use native.Mathlib.Omega.{arith}
use lib.ListN.{length, take, drop, length-append, length-drop}
use lib.Seq.{take_at, drop_at, drop-drop}
use Rattle.plan.specs.Reading.{read_of}
use Rattle.plan.specs.declared.Layout.{Layout}
use Rattle.judge.specs.Verdict.{work_size, record_size, verdict_of}
use Rattle.judge.specs.Judged.{cleared_work}
use Rattle.judge.specs.Shown.{shown_entries}
use Rattle.judge.specs.Demand3.{PlanRule, Says}
use Rattle.judge.proofs.Demand3.{found_answer, demand3}
use Rattle.handed.specs.Files.{Holds, most_files, Class}
use Rattle.handed.specs.Files as the_files
use Rattle.place.specs.Place.{place_size, heading_of, zero_work, zero_record, Placed, place_for, Places, none, place, joined}
use Rattle.class.specs.Outcome.{Answer, number, number_of, RefusedBy, no_work, no_class, no_room, Unchanged, AllFilled, Outcome}
use Rattle.class.specs.Promises.{place_in, Promised, ClassPromises}
use Rattle.std.specs.Prelude.{Ok, Err}
use mathlib.Core.Option.{some}
use Rattle.class.specs.declared.Refusal.{Refusal}
use Rattle.class.specs.declared.Refusal.TheVariants.{WorkArea, Files, AnswerArea}
use Rattle.handed.proofs.Files.{one_list, handed_holds, headed, held_after}
use Rattle.place.proofs.Places.{work_long, record_long, heading_long, placed_long, as_alone, bytes_are, one_place, some_place}
use Rattle.place.proofs.Lengths.{any_length}
use Rattle.class.proofs.Codes.{codes_apart}
use Rattle.place.proofs.Lists.{places_long, some_places}
use Rattle.class.proofs.Outcomes.{one_outcome, some_outcome}

-- the place of a file among others
first_place : (p q rest : List ℕ) → length p ≡ place_size → take place_size (p ++ q ++ rest) ≡ p
first_place p q rest e = ap (take place_size) (append_assoc p q rest) ∙ take_at p (q ++ rest) place_size e

later_place : (p q rest : List ℕ) (k : ℕ) → length p ≡ place_size → drop (place_size * suc k) (p ++ q ++ rest) ≡ drop (place_size * k) (q ++ rest)
later_place p q rest k e =
    let m : place_size * suc k ≡ place_size + place_size * k = omega arith in
    ap₂ (λ (n : ℕ) (l : List ℕ). drop n l) m (append_assoc p q rest) ∙ sym (drop-drop (place_size * k) place_size (p ++ (q ++ rest))) ∙ ap (drop (place_size * k)) (drop_at p (q ++ rest) place_size e)

at_first : (f p q rest : List ℕ) → Placed f p → Placed f (take place_size (p ++ q ++ rest))
at_first f p q rest x = subst (λ (b : List ℕ). Placed f b) (sym (first_place p q rest (placed_long f p x))) x

at_later : (f g p q rest : List ℕ) (k : ℕ) → Placed g p → Placed f (take place_size (drop (place_size * k) (q ++ rest))) → Placed f (take place_size (drop (place_size * suc k) (p ++ q ++ rest)))
at_later f g p q rest k x y = subst (λ (b : List ℕ). Placed f (take place_size b)) (sym (later_place p q rest k (placed_long g p x))) y

place_at : (before after : List (List ℕ)) (f : List ℕ) (qs : List (List ℕ)) (rest : List ℕ) → Places (before ++ f ∷ after) qs → Placed f (place_in (joined qs ++ rest) (length before))
place_at [] after f qs rest (place {p} {ps} x xs) = at_first f p (joined ps) rest x
place_at (g ∷ before) after f qs rest (place {p} {ps} x xs) = at_later f g p (joined ps) rest (length before) x (place_at before after f ps rest xs)

-- which number, why
refused_by : (a : Answer) (n : ℕ) → number_of a ≡ some n → (r : Refusal) × (a ≡ Err r) × (number r ≡ n)
refused_by (Ok m) n e = cc
refused_by (Err r) n e = (r, refl, cc)

module _ (s : List ℕ) (work room : ℕ) where
  why_ten : (r : Refusal) → number r ≡ 10 → RefusedBy s work room r → work < work_size
  why_ten r e (no_work h) = h
  why_ten r e (no_class h no_files) = absurd (omega (arith, e))
  why_ten r e (no_room h fs c l) = absurd (omega (arith, e))

  why_nineteen : (r : Refusal) → number r ≡ 19 → RefusedBy s work room r → (work_size ≤ work) × ((files : List (List ℕ)) → Class s files → ⊥)
  why_nineteen r e (no_work h) = absurd (omega (arith, e))
  why_nineteen r e (no_class h no_files) = (h, no_files)
  why_nineteen r e (no_room h fs c l) = absurd (omega (arith, e))

  why_twenty : (r : Refusal) → number r ≡ 20 → RefusedBy s work room r → (work_size ≤ work) × ((files : List (List ℕ)) × Class s files × (room < place_size * length files))
  why_twenty r e (no_work h) = absurd (omega (arith, e))
  why_twenty r e (no_class h no_files) = absurd (omega (arith, e))
  why_twenty r e (no_room h fs c l) = (h, (fs, c, l))

module _ (s work work' old new : List ℕ) (a : Answer) (x : Outcome s work work' old new a) where
  when_filled : (n : ℕ) → a ≡ Ok n → AllFilled s work work' old new n
  when_filled n e = subst (λ (b : Answer). Outcome s work work' old new b) e x

  when_refused : (n : ℕ) → number_of a ≡ some n → (r : Refusal) × (number r ≡ n) × Unchanged s work work' old new r
  when_refused n e = let (r, is, k) = refused_by a n e in (r, k, subst (λ (b : Answer). Outcome s work work' old new b) is x)

  -- an outcome is this one
  is_refused : (r : Refusal) → RefusedBy s (length work) (length old) r → number_of a ≡ some (number r)
  is_refused r why = ap number_of (one_outcome s work work' work old new old a (Err r) x (record { why = why; works = refl; answers = refl })).answers

  files_filled : (files : List (List ℕ)) → Class s files → work_size ≤ length work → place_size * length files ≤ length old → (ps : List (List ℕ)) → Places files ps
      → AllFilled s work (cleared_work work) old (joined ps ++ drop (place_size * length files) old) (length files)
  files_filled files c w r ps p = record { files = files; class = c; counted = refl; enough = w; room = r; places = ps; placed = p; works = refl; answers = refl }

  is_filled_lem : (files : List (List ℕ)) → Class s files → work_size ≤ length work → place_size * length files ≤ length old → a ≡ Ok (length files)
  is_filled_lem files c w r =
      (one_outcome s work work' (cleared_work work) old new (joined (map place_for files) ++ drop (place_size * length files) old) a (Ok (length files)) x (files_filled files c w r (map place_for files) (some_places files))).answers

  seventeenth : (first more : List ℕ) (files : List (List ℕ)) → s ≡ first ++ more → Holds first files → length files ≡ most_files → 0 < length more → work_size ≤ length work → number_of a ≡ some 19
  seventeenth first more files e h n rest w = is_refused Files (no_class w too_many)
    where
      too_many : (gs : List (List ℕ)) → Class s gs → ⊥
      too_many gs c =
          let (hs, k, m) = held_after first more files gs h (subst (λ (r : List ℕ). Holds r gs) e c.holds) in
          let y = headed more hs k rest in
          let l : length hs ≡ suc (length y.others) = ap length y.is in
          omega (arith, c.few)

  each : (n : ℕ) → a ≡ Ok n → (before after : List (List ℕ)) (f : List ℕ) → Holds s (before ++ f ∷ after) → Placed f (place_in new (length before))
  each n e before after f h =
      let y = when_filled n e in
      let g : y.files ≡ before ++ f ∷ after = one_list s y.files (before ++ f ∷ after) y.class.holds h in
      subst (λ (b : List ℕ). Placed f (place_in b (length before))) (sym y.answers)
      (place_at before after f y.places (drop (place_size * length y.files) old) (subst (λ (fs : List (List ℕ)). Places fs y.places) g y.placed))

  all : (n : ℕ) → a ≡ Ok n → (files : List (List ℕ)) → Holds s files → length files ≡ n
  all n e files h = let y = when_filled n e in ap length (one_list s files y.files h y.class.holds) ∙ sym y.counted

  beyond : (n : ℕ) → a ≡ Ok n → drop (place_size * n) new ≡ drop (place_size * n) old
  beyond n e =
      let y = when_filled n e in
      let k : place_size * n ≡ place_size * length y.files = ap (λ (m : ℕ). place_size * m) y.counted in
      ap₂ (λ (m : ℕ) (l : List ℕ). drop m l) k y.answers ∙ drop_at (joined y.places) (drop (place_size * length y.files) old) (place_size * length y.files) (places_long y.files y.places y.placed) ∙ ap (λ (m : ℕ). drop m old) (sym k)

  nobody : s ≡ [] → work_size ≤ length work → (a ≡ Ok 0) × (work' ≡ cleared_work work) × (new ≡ old)
  nobody e w =
      let c : Class s [] = record { holds = subst (λ (r : List ℕ). Holds r []) (sym e) the_files.none; few = omega arith } in
      let y = one_outcome s work work' (cleared_work work) old new old a (Ok 0) x (files_filled [] c w (omega arith) [] none) in
      (y.answers, y.works, y.areas)

filled_long : (s work work' old new : List ℕ) (n : ℕ) → AllFilled s work work' old new n → length new ≡ length old
filled_long s work work' old new n y =
    let k = places_long y.files y.places y.placed in
    let d = length-drop (place_size * length y.files) old in
    ap length y.answers ∙ length-append (joined y.places) (drop (place_size * length y.files) old) ∙ omega (arith, y.room)

long : (s work work' old new : List ℕ) (a : Answer) → Outcome s work work' old new a → length new ≡ length old
long s work work' old new (Ok n) x = filled_long s work work' old new n x
long s work work' old new (Err r) x = ap length x.answers

pub promised : (s work work' old new : List ℕ) (a : Answer) → Outcome s work work' old new a → Promised s work work' old new a
promised s work work' old new a x = record {
  each = each s work work' old new a x;
  all = all s work work' old new a x;
  works = λ n e. (when_filled s work work' old new a x n e).works;
  beyond = beyond s work work' old new a x;
  long = long s work work' old new a x;
  nobody = nobody s work work' old new a x;
  ten = (
    λ e. let (r, k, y) = when_refused s work work' old new a x 10 e in why_ten s (length work) (length old) r k y.why,
    λ h. is_refused s work work' old new a x WorkArea (no_work h),
  );
  nineteen = (
    λ e. let (r, k, y) = when_refused s work work' old new a x 19 e in why_nineteen s (length work) (length old) r k y.why,
    λ h. is_refused s work work' old new a x Files (no_class h.0 h.1),
  );
  seventeenth = seventeenth s work work' old new a x;
  twenty = (
    λ e. let (r, k, y) = when_refused s work work' old new a x 20 e in why_twenty s (length work) (length old) r k y.why,
    λ h. is_refused s work work' old new a x AnswerArea (no_room h.0 h.1.0 h.1.1 h.1.2),
  );
  filled = λ n. (
    λ e. let y = when_filled s work work' old new a x n e in (y.enough, (y.files, y.class, y.room, y.counted)),
    λ h. is_filled_lem s work work' old new a x h.1.0 h.1.1 h.0 h.1.2 ∙ ap Ok (sym h.1.3),
  );
  unchanged = λ n e. let (r, k, y) = when_refused s work work' old new a x n e in (y.works, y.answers);
}

by_verdict : (f p : List ℕ) (x : Placed f p) (work records : ℕ) → work_size ≤ work → record_size ≤ records → x.verdict ≡ verdict_of f work records
by_verdict f p x work records h k =
    let w = work_long in
    let r = record_long in
    x.alone.answer ∙ found_answer f (length zero_work) (length zero_record) (omega arith) (omega arith) ∙ sym (found_answer f work records h k)

says : (f p : List ℕ) (x : Placed f p) (l : Layout) → read_of f ≡ Ok l → (rule : PlanRule f l) → Says f l rule (drop 4 p) x.verdict
says f p x l h rule =
    let w = work_long in
    let r = record_long in
    let n = length (shown_entries x.shown) in
    let e : drop 4 p ≡ x.shown = ap (drop 4) x.is ∙ drop_at (heading_of x.verdict n) x.shown 4 (heading_long x.verdict n) in
    subst (λ (b : List ℕ). Says f l rule b x.verdict) (sym e) (demand3.says f zero_work zero_work zero_record x.shown x.verdict x.alone (omega arith) (omega arith) l h rule)

pub class_promises : ClassPromises
class_promises = record {
  one_list = one_list;
  handed_holds = handed_holds;
  one_outcome = one_outcome;
  some_outcome = some_outcome;
  promised = promised;
  codes_apart = codes_apart;
  one_place = one_place;
  some_place = some_place;
  place_long = placed_long;
  as_alone = as_alone;
  any_length = any_length;
  bytes_are = bytes_are;
  by_verdict = by_verdict;
  says = says;
}
