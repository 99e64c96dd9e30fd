-- A job that passes the checks of an entry is one that a start and entries give: its own record, offered to the fresh job of its plan,
-- leads back to it. So a job that none gives is refused.
use Rattle.std.specs.Prelude.{Result, Ok, Err}
use mathlib.Core.Path.{◌≡◌, refl, sym, ap, ap₂, subst, ◌∙◌}
use mathlib.Core.Bool.{Bool, true, false, cond}
use mathlib.Core.List.{List, [], ◌∷◌, ◌++◌}
use mathlib.Core.Logic.{◌⊎◌, inl, inr}
use Prim.Native.Nat.{ℕ, zero, suc, ◌+◌, ◌-◌, ◌*◌, ◌≤◌, ◌<◌}
use native.Mathlib.Omega.{arith}
use lib.Dec.{ltb, eqb}
use lib.ListN.{length, get_or, set, replicate, length-set}
use lib.Seq.{ext_get_or, get_or-set_same, get_or-set_other, length-take-le}
use borrow.Author.Tests.{ltb-true, ltb-false, eqb-true, eqb-false}
use Rattle.blocks.proofs.Bounded.{decide}
use Rattle.plan.specs.PlanFile.{most_bytes}
use Rattle.plan.specs.Reading.{bytes_of, read_of}
use Rattle.plan.specs.declared.Layout.{Layout}
use Rattle.plan.specs.declared.Fault.{Fault}
use Rattle.state.specs.State.{told_by, may_come, fresh_table, replay, entry_at, entries_from, state_after}
use Rattle.job.specs.Demand2.{plan_process, Continues}
use Rattle.job.specs.Job.{Answer, saying, refusal, untimed_job, plan_of, tidy, untimed, with_entry, take_after, take_with, take_on, take_of}
use Rattle.job.specs.Numbers.{Refuses}
use Rattle.job.specs.Offer.{Standing, on_answer, next, offer, started, record_of, Real, Sized}
use Rattle.state.specs.declared.Entry.{Entry}
use Rattle.job.specs.declared.Refusal.TheVariants as why
use Rattle.job.specs.declared.Job.{Job}
use Rattle.job.specs.declared.Taken.{Taken}
use Rattle.job.proofs.Tidy.{Tidy, tidy_says, untimed_is}
use Rattle.job.proofs.Areas.{zero_past, padded_back}
use Rattle.job.proofs.Outcomes.{zeros_at}
use Rattle.job.proofs.Entries.{last_entry}
use Rattle.job.proofs.Followed.{err_ok}
use Rattle.job.proofs.Good.{Good, fresh_good, not_taken, taken_so, next_good}
use Rattle.job.proofs.Standing.{refuses_so, continues, started_fine, offered_fine}

-- the first k entries of a record, and zeros after them
unfoldable pub firsts : List ℕ → ℕ → List ℕ
firsts r zero = replicate 126 0
firsts r (suc k) = set (set (firsts r k) (2 * k) (get_or r (2 * k) 0)) (2 * k + 1) (get_or r (2 * k + 1) 0)

firsts_long : (r : List ℕ) (k : ℕ) → length (firsts r k) ≡ 126
unfolding firsts
firsts_long r zero = refl
firsts_long r (suc k) = simp length-set (firsts_long r k)

pub firsts_in : (r : List ℕ) (k i : ℕ) → k ≤ 63 → i < 2 * k → get_or (firsts r k) i 0 ≡ get_or r i 0
unfolding firsts
firsts_in r zero i h l = absurd (omega arith)
firsts_in r (suc k) i h l = go (firsts_in r k i) (decide (eqb i (2 * k + 1))) (decide (eqb i (2 * k)))
  where
    before : List ℕ
    before = set (firsts r k) (2 * k) (get_or r (2 * k) 0)

    go : (k ≤ 63 → i < 2 * k → get_or (firsts r k) i 0 ≡ get_or r i 0)
        → (eqb i (2 * k + 1) ≡ true) ⊎ (eqb i (2 * k + 1) ≡ false) → (eqb i (2 * k) ≡ true) ⊎ (eqb i (2 * k) ≡ false)
        → get_or (set before (2 * k + 1) (get_or r (2 * k + 1) 0)) i 0 ≡ get_or r i 0
    go below (inl e) f =
        rw (eqb-true i (2 * k + 1) e) (get_or-set_same before (2 * k + 1) (get_or r (2 * k + 1) 0) 0 (omega (arith, length-set (firsts r k) (2 * k) (get_or r (2 * k) 0), firsts_long r k)))
    go below (inr e) (inl f) =
        let z = eqb-true i (2 * k) f in
        get_or-set_other before (2 * k + 1) i (get_or r (2 * k + 1) 0) 0 (eqb-false _ _ e)
        ∙ rw z (get_or-set_same (firsts r k) (2 * k) (get_or r (2 * k) 0) 0 (omega (arith, firsts_long r k)))
    go below (inr e) (inr f) =
        let x = eqb-false i (2 * k + 1) e in
        let y = eqb-false i (2 * k) f in
        get_or-set_other before (2 * k + 1) i (get_or r (2 * k + 1) 0) 0 x ∙ get_or-set_other (firsts r k) (2 * k) i (get_or r (2 * k) 0) 0 y ∙ below (omega arith) (omega arith)

firsts_out : (r : List ℕ) (k i : ℕ) → 2 * k ≤ i → get_or (firsts r k) i 0 ≡ 0
unfolding firsts
firsts_out r zero i h = zeros_at 126 i
firsts_out r (suc k) i h =
    get_or-set_other (set (firsts r k) (2 * k) (get_or r (2 * k) 0)) (2 * k + 1) i (get_or r (2 * k + 1) 0) 0 (λ e. omega arith)
    ∙ get_or-set_other (firsts r k) (2 * k) i (get_or r (2 * k) 0) 0 (λ e. omega arith)
    ∙ firsts_out r k i (omega arith)

-- records with the same bytes have the same entries
entries_same : (x y : List ℕ) (i k : ℕ) → ((m : ℕ) → m < 2 * (i + k) → get_or x m 0 ≡ get_or y m 0) → entries_from x i k ≡ entries_from y i k
unfolding entries_from
entries_same x y i zero h = refl
entries_same x y i (suc k) h = rw (h (2 * i) (omega arith), h (2 * i + 1) (omega arith), entries_same x y (i + 1) k (λ m l. h m (omega arith)))

entries_split : (r : List ℕ) (i k m : ℕ) → entries_from r i (k + m) ≡ entries_from r i k ++ entries_from r (i + k) m
unfolding entries_from
entries_split r i zero m =
    let e : 0 + m ≡ m = omega arith in
    let f : i + 0 ≡ i = omega arith in
    rw (e, f)
entries_split r i (suc k) m =
    let e : suc k + m ≡ suc (k + m) = omega arith in
    let f : i + 1 + k ≡ i + suc k = omega arith in
    rw e (ap (λ (es : List Entry). entry_at r i ∷ es) (entries_split r (i + 1) k m ∙ rw f))

-- an entry of a record that replays might come where it stands
replay_at : (types b : List ℕ) (xs : List Entry) (e : Entry) (ys : List Entry) (table after last : List ℕ)
    → replay types b table (xs ++ (e ∷ ys)) ≡ Ok last → replay types b table xs ≡ Ok after
    → may_come types b after e.leaf e.outcome ≡ true
unfolding replay
replay_at types b [] e ys table after last h k = go (decide (may_come types b table e.leaf e.outcome))
  where
    same : table ≡ after
    same = cc

    go : (may_come types b table e.leaf e.outcome ≡ true) ⊎ (may_come types b table e.leaf e.outcome ≡ false) → may_come types b after e.leaf e.outcome ≡ true
    go (inl m) = rw same at m
    go (inr m) = absurd (err_ok (rw m at h))
replay_at types b (d ∷ xs) e ys table after last h k = go (replay_at types b xs e ys (set table d.leaf d.outcome) after last) (decide (may_come types b table d.leaf d.outcome))
  where
    go : (replay types b (set table d.leaf d.outcome) (xs ++ (e ∷ ys)) ≡ Ok last → replay types b (set table d.leaf d.outcome) xs ≡ Ok after → may_come types b after e.leaf e.outcome ≡ true)
        → (may_come types b table d.leaf d.outcome ≡ true) ⊎ (may_come types b table d.leaf d.outcome ≡ false)
        → may_come types b after e.leaf e.outcome ≡ true
    go rest (inl m) = rest (rw m at h) (rw m at k)
    go rest (inr m) = absurd (err_ok (rw m at h))

-- one entry more, offered after the others
offer_snoc : (x : Standing) (es : List Entry) (e : Entry) → offer x (es ++ (e ∷ [])) ≡ next (offer x es) e
unfolding offer
offer_snoc x [] e = refl
offer_snoc x (d ∷ es) e = offer_snoc (next x d) es e

-- the next entry goes to the job that is handed back
pub next_job : (x : Standing) (e : Entry) → (next x e).job ≡ (take_of x.job e).job
next_job x e = go (take_of x.job e).answer
  where
    go : (a : Answer) → (on_answer a (take_of x.job e).job x.told).job ≡ (take_of x.job e).job
    go (Ok t) = refl
    go (Err r) = refl

module _ (s : List ℕ) (l : Layout) (acc : read_of s ≡ Ok l) (r : List ℕ) (taken : ℕ) (few : taken < 63)
    (last : List ℕ) (whole : state_after (bytes_of s l.types) (bytes_of s l.nodes) r taken ≡ Ok last) where
  -- the job of the first k entries
  abbrev pub at : ℕ → Job
  at k = untimed_job (s ++ replicate (most_bytes - length s) 0) (length s) (firsts r k) k

  pub record Led (k : ℕ) : Type 0 where
    pub good : Good s l acc (at k)
    pub there : (offer (started s l) (entries_from r 0 k)).job ≡ at k

  -- the next entry may come
  pub may_next : (k : ℕ) → k < taken → (g : Good s l acc (at k)) → may_come (bytes_of s l.types) (bytes_of s l.nodes) g.table (entry_at r k).leaf (entry_at r k).outcome ≡ true
  unfolding entries_from
  may_next k h g =
      let rest = taken - (k + 1) in
      let z : 0 + k ≡ k = omega arith in
      let e : taken ≡ k + suc rest = omega arith in
      let split : entries_from r 0 taken ≡ entries_from r 0 k ++ (entry_at r k ∷ entries_from r (k + 1) rest) =
      ap (entries_from r 0) e ∙ entries_split r 0 k (suc rest) ∙ rw z in
      let same : entries_from r 0 k ≡ entries_from (firsts r k) 0 k = entries_same r (firsts r k) 0 k (λ m i. sym (firsts_in r k m (omega arith) (omega arith))) in
      replay_at (bytes_of s l.types) (bytes_of s l.nodes) (entries_from r 0 k) (entry_at r k) (entries_from r (k + 1) rest) fresh_table g.table last (rw split at whole) (rw same g.state)

  pub at_more : (k : ℕ) → with_entry (at k) (entry_at r k) ≡ at (suc k)
  unfolding firsts
  at_more k = let n : k + 1 ≡ suc k = omega arith in rw n

  pub led : (k : ℕ) → k ≤ taken → Led k
  unfolding firsts offer entries_from
  led zero h = record { good = fresh_good s l acc; there = refl }
  led (suc k) h = go (led k (omega arith))
    where
      go : Led k → Led (suc k)
      go x =
          let e = entry_at r k in
          let m = may_next k (omega arith) x.good in
          let z : 0 + k ≡ k = omega arith in
          let n : k + 1 ≡ suc k = omega arith in
          record {
            good = subst (Good s l acc) (at_more k) (next_good s l acc (at k) x.good e m);
            there =
                ap (λ (i : ℕ). (offer (started s l) (entries_from r 0 i)).job) (sym n)
                ∙ ap (λ (es : List Entry). (offer (started s l) es).job) (last_entry r 0 k)
                ∙ rw z (ap (λ (x : Standing). x.job) (offer_snoc (started s l) (entries_from r 0 k) e) ∙ next_job (offer (started s l) (entries_from r 0 k)) e ∙ ap (λ (j : Job). (take_of j e).job) x.there ∙ ap (λ (t : Taken). t.job) (taken_so s l acc (at k) x.good e m) ∙ at_more k);
          }

-- the areas of a tidy job are those of its plan file and its record
pub tidy_file : (j : Job) → Sized j → Tidy j → plan_of j ++ replicate (most_bytes - length (plan_of j)) 0 ≡ j.file
tidy_file j z t =
    let long : length (plan_of j) ≡ j.file_len = length-take-le j.file_len j.file (omega (arith, z.file, t.file_fits)) in
    rw (long, ← z.file) (padded_back j.file j.file_len (omega (arith, z.file, t.file_fits)) t.file_zeros)

pub tidy_entries : (j : Job) → Sized j → Tidy j → firsts j.entries j.taken ≡ j.entries
tidy_entries j z t =
    ext_get_or 0 (firsts j.entries j.taken) j.entries (firsts_long j.entries j.taken ∙ sym z.entries)
    (λ i l. go i (omega (arith, firsts_long j.entries j.taken)) (decide (ltb i (2 * j.taken))))
  where
    go : (i : ℕ) → i < 126 → (ltb i (2 * j.taken) ≡ true) ⊎ (ltb i (2 * j.taken) ≡ false) → get_or (firsts j.entries j.taken) i 0 ≡ get_or j.entries i 0
    go i l (inl e) = firsts_in j.entries j.taken i (omega (arith, t.few)) (ltb-true _ _ e)
    go i l (inr e) =
        let k = ltb-false i (2 * j.taken) e in
        firsts_out j.entries j.taken i k ∙ sym (zero_past j.entries (2 * j.taken) t.entries_zeros i (omega (arith, z.entries)) k)

pub real_job : (j : Job) (l : Layout) → Sized j → untimed j ≡ true → Tidy j → read_of (plan_of j) ≡ Ok l
    → (last : List ℕ) → state_after (bytes_of (plan_of j) l.types) (bytes_of (plan_of j) l.nodes) j.entries j.taken ≡ Ok last → Real j
real_job j l z p t acc last whole =
    let s = plan_of j in
    let x = led s l acc j.entries j.taken t.few last whole j.taken (omega arith) in
    let long : length s ≡ j.file_len = length-take-le j.file_len j.file (omega (arith, z.file, t.file_fits)) in
    let same : at s l acc j.entries j.taken t.few last whole j.taken ≡ j = rw (tidy_file j z t, tidy_entries j z t, long) (untimed_is j z p) in
    record { file = s; layout = l; accepted = acc; entries = entries_from j.entries 0 j.taken; is = sym (x.there ∙ same) }

-- a real job is good
pub real_good : (j : Job) (r : Real j) → Good r.file r.layout r.accepted j
real_good j r =
    let f = offered_fine r.file r.layout r.accepted r.entries (started r.file r.layout) (started_fine r.file r.layout r.accepted) in
    subst (Good r.file r.layout r.accepted) (sym r.is) f.good

-- every job is refused, or good for its own plan file
pub refused_or_good : (j : Job) → Sized j → (e : Entry) → (take_of j e ≡ refusal why.Entry j) ⊎ ((l : Layout) × (acc : read_of (plan_of j) ≡ Ok l) × Good (plan_of j) l acc j)
refused_or_good j z e = go (decide (untimed j)) (decide (tidy j))
  where
    Found : Type 0
    Found = (l : Layout) × (acc : read_of (plan_of j) ≡ Ok l) × Good (plan_of j) l acc j

    on_state : untimed j ≡ true → Tidy j → (l : Layout) → read_of (plan_of j) ≡ Ok l
        → (x : Result (List ℕ) (List ℕ)) → state_after (bytes_of (plan_of j) l.types) (bytes_of (plan_of j) l.nodes) j.entries j.taken ≡ x
        → (take_with (bytes_of (plan_of j) l.types) (bytes_of (plan_of j) l.nodes) j e ≡ refusal why.Entry j) ⊎ Found
    on_state p t l acc (Ok table) h = inr (l, acc, record { plan = refl; sized = z; plain = p; neat = t; table = table; state = h })
    on_state p t l acc (Err table) h = inl (ap (take_after (bytes_of (plan_of j) l.types) (bytes_of (plan_of j) l.nodes) j e) h)

    on_plan : untimed j ≡ true → Tidy j → (a : Result Layout Fault) → read_of (plan_of j) ≡ a → (take_on j e a ≡ refusal why.Entry j) ⊎ Found
    on_plan p t (Ok l) acc = on_state p t l acc _ refl
    on_plan p t (Err f) acc = inl refl

    tested : Bool → Bool → Taken
    tested p t = cond p (cond t (take_on j e (read_of (plan_of j))) (refusal why.Entry j)) (refusal why.Entry j)

    go : (untimed j ≡ true) ⊎ (untimed j ≡ false) → (tidy j ≡ true) ⊎ (tidy j ≡ false) → (take_of j e ≡ refusal why.Entry j) ⊎ Found
    go (inl p) (inl h) = elim (on_plan p (tidy_says j h) (read_of (plan_of j)) refl) [ inl q ↦ inl (ap₂ tested p h ∙ q) | inr g ↦ inr g ]
    go (inl p) (inr h) = inl (ap₂ tested p h)
    go (inr p) t = inl (ap (λ (q : Bool). tested q (tidy j)) p)

-- what is good for its own plan file is real
unfoldable pub good_real : (j : Job) → Sized j → (l : Layout) (acc : read_of (plan_of j) ≡ Ok l) → Good (plan_of j) l acc j → Real j
unfolding real_job
good_real j z l acc g = real_job j l z g.plain g.neat acc g.table g.state

-- a job that is not real is refused
pub false_refused : (j : Job) → Sized j → (Real j → ⊥) → (e : Entry) → Refuses 11 j (take_of j e)
false_refused j z n e = go (refused_or_good j z e)
  where
    go : (take_of j e ≡ refusal why.Entry j) ⊎ ((l : Layout) × (acc : read_of (plan_of j) ≡ Ok l) × Good (plan_of j) l acc j) → Refuses 11 j (take_of j e)
    go (inl q) = refuses_so why.Entry j (take_of j e) q
    go (inr (l, acc, g)) = absurd (n (good_real j z l acc g))

-- an entry is refused, or its job is real and it continues its record
pub refused_or_permitted : (j : Job) → Sized j → (e : Entry) → (take_of j e ≡ refusal why.Entry j) ⊎ ((r : Real j) × Continues (plan_process r.file r.layout) (record_of j) e)
unfolding real_job good_real
refused_or_permitted j z e = go (refused_or_good j z e)
  where
    Found : Type 0
    Found = (r : Real j) × Continues (plan_process r.file r.layout) (record_of j) e

    on_entry : (l : Layout) (acc : read_of (plan_of j) ≡ Ok l) (g : Good (plan_of j) l acc j)
        → (may_come (bytes_of (plan_of j) l.types) (bytes_of (plan_of j) l.nodes) g.table e.leaf e.outcome ≡ true)
        ⊎ (may_come (bytes_of (plan_of j) l.types) (bytes_of (plan_of j) l.nodes) g.table e.leaf e.outcome ≡ false)
        → (take_of j e ≡ refusal why.Entry j) ⊎ Found
    on_entry l acc g (inl m) =
        let x : Standing = record { job = j; told = saying (told_by (bytes_of (plan_of j) l.nodes) g.table) } in
        inr (good_real j z l acc g, (continues (plan_of j) l acc x (record { good = g; told = refl }) e).0 m)
    on_entry l acc g (inr m) = inl (not_taken (plan_of j) l acc j g e m)

    go : (take_of j e ≡ refusal why.Entry j) ⊎ ((l : Layout) × (acc : read_of (plan_of j) ≡ Ok l) × Good (plan_of j) l acc j) → (take_of j e ≡ refusal why.Entry j) ⊎ Found
    go (inl q) = inl q
    go (inr (l, acc, g)) = on_entry l acc g (decide _)
