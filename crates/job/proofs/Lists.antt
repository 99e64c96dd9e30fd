-- Demand 2 of whole lists: of each entry it says that it is taken, continues the record and ends it, or is refused and changes nothing; so of
-- lists by induction, from wherever a fresh job stands after some entries.
use Rattle.std.specs.Prelude.{Ok}
use mathlib.Core.Path.{◌≡◌, refl, sym, ap, ap₂, subst, ◌∙◌}
use mathlib.Core.Bool.{true, false}
use mathlib.Core.List.{List, [], ◌∷◌, ◌++◌, map, append-nil, append_assoc}
use mathlib.Core.Logic.{◌⊎◌, inl, inr}
use mathlib.Core.Option.{none, some, some-ne-none}
use Prim.Native.Nat.{ℕ}
use Rattle.blocks.proofs.Bounded.{decide}
use Rattle.process.specs.Process.{Process, entry, Run}
use Rattle.plan.specs.Reading.{read_of}
use Rattle.plan.specs.declared.Layout.{Layout}
use Rattle.runs.specs.Beginnings.{Begins}
use Rattle.state.specs.State.{entries_from}
use Rattle.state.specs.declared.Entry.{Entry}
use Rattle.job.specs.Job.{take_of}
use Rattle.job.specs.Numbers.{number_of}
use Rattle.job.specs.Offer.{Standing, on_answer, next, offer, TakesAll, no_more, one_more, started, run_entry, record_of}
use Rattle.job.specs.Lists.{offered, if_taken, taken_from, WholeLists}
use Rattle.job.specs.Demand2.{plan_process, Continues}
use Rattle.job.specs.declared.Job.{Job}
use Rattle.job.specs.declared.Taken.{Taken}
use Rattle.job.proofs.Entries.{entries_more}
use Rattle.job.proofs.Followed.{status_back}
use Rattle.job.proofs.Good.{not_taken, taken_so, room, map_snoc}
use Rattle.job.proofs.Standing.{Fine, may, continues, next_fine, started_fine}
use Rattle.job.proofs.Honest.{honest}
use Rattle.job.proofs.TakesAll.{takes_on}

-- the entries of a job's record
abbrev entries_of : Job → List Entry
entries_of j = entries_from j.entries 0 j.taken

-- An entry is taken, continues the record and ends it; or it is refused, and changes nothing.
data Answered (P : Process) (x : Standing) (e : Entry) : Type 0 where
  taken : number_of (take_of x.job e).answer ≡ none → ((es : List Entry) → if_taken (take_of x.job e).answer e es ≡ e ∷ es)
      → Continues P (record_of x.job) e → entries_of (next x e).job ≡ entries_of x.job ++ (e ∷ []) → Answered P x e
  refused : number_of (take_of x.job e).answer ≡ some 11 → ((es : List Entry) → if_taken (take_of x.job e).answer e es ≡ es) → next x e ≡ x → Answered P x e

module _ (s : List ℕ) (l : Layout) (acc : read_of s ≡ Ok l) where
  abbrev P : Process
  P = plan_process s l

  answered : (x : Standing) → Fine s l acc x → (e : Entry) → Answered P x e
  answered x f e = go (decide (may s l acc x f e))
    where
      go : (may s l acc x f e ≡ true) ⊎ (may s l acc x f e ≡ false) → Answered P x e
      go (inl h) =
          let j = x.job in
          let is = taken_so s l acc j f.good e h in
          taken (ap (λ (t : Taken). number_of t.answer) is) (λ es. ap (λ (t : Taken). if_taken t.answer e es) is) ((continues s l acc x f e).0 h)
          (ap (λ (t : Taken). entries_of (on_answer t.answer t.job x.told).job) is ∙ entries_more j.entries j.taken e.leaf e.outcome (room s l acc j f.good e h))
      go (inr h) =
          let is = not_taken s l acc x.job f.good e h in
          refused (ap (λ (t : Taken). number_of t.answer) is) (λ es. ap (λ (t : Taken). if_taken t.answer e es) is) (ap (λ (t : Taken). on_answer t.answer t.job x.told) is)

  -- a list that is taken whole is one of entries that bring the record to a beginning
  only_begun : (es : List Entry) (x y : Standing) → Fine s l acc x → TakesAll x es y → (w : Run) × (es ≡ map offered w) × Begins P (record_of x.job ++ w)
  only_begun [] x y f t = ([], refl, rw append-nil (honest s l acc x f).begins)
  only_begun (e ∷ es) x y f (one_more n t) = go (only_begun es (next x e) y (next_fine s l acc x f e) t) (answered x f e)
    where
      go : (w : Run) × (es ≡ map offered w) × Begins P (record_of (next x e).job ++ w) → Answered P x e → (w : Run) × (e ∷ es ≡ map offered w) × Begins P (record_of x.job ++ w)
      go (w, is, b) (taken k on c more) =
          let d = entry e.leaf c.status in
          let same : e ≡ offered d = ap (λ (o : ℕ). record { leaf = e.leaf; outcome = o }) c.outcome in
          let back : run_entry e ≡ d = ap run_entry same ∙ ap (entry e.leaf) (status_back c.status) in
          let longer : record_of (next x e).job ≡ record_of x.job ++ (d ∷ []) = ap (map run_entry) more ∙ map_snoc (entries_of x.job) e ∙ rw back in
          (d ∷ w, ap₂ (λ (a : Entry) (ds : List Entry). a ∷ ds) same is, rw append_assoc at (rw longer at b))
      go r (refused k on stays) = absurd (some-ne-none 11 (sym k ∙ n))

  -- what is taken of a list leads to where the list leads
  leads : (es : List Entry) (x : Standing) → Fine s l acc x → TakesAll x (taken_from x es) (offer x es)
  unfolding taken_from offer
  leads [] x f = no_more
  leads (e ∷ es) x f = go (leads es (next x e) (next_fine s l acc x f e)) (answered x f e)
    where
      go : TakesAll (next x e) (taken_from (next x e) es) (offer (next x e) es) → Answered P x e
          → TakesAll x (if_taken (take_of x.job e).answer e (taken_from (next x e) es)) (offer (next x e) es)
      go t (taken k on c more) = rw (on (taken_from (next x e) es)) (one_more k t)
      go t (refused k on stays) = rw (on (taken_from (next x e) es)) (subst (λ (y : Standing). TakesAll y (taken_from (next x e) es) (offer (next x e) es)) stays t)

  -- and the record has it more
  adds : (es : List Entry) (x : Standing) → Fine s l acc x → entries_of (offer x es).job ≡ entries_of x.job ++ taken_from x es
  unfolding taken_from offer
  adds [] x f = sym (append-nil (entries_of x.job))
  adds (e ∷ es) x f = go (adds es (next x e) (next_fine s l acc x f e)) (answered x f e)
    where
      rest : List Entry
      rest = taken_from (next x e) es

      go : entries_of (offer (next x e) es).job ≡ entries_of (next x e).job ++ rest → Answered P x e
          → entries_of (offer (next x e) es).job ≡ entries_of x.job ++ if_taken (take_of x.job e).answer e rest
      go t (taken k on c more) = t ∙ ap (λ (es : List Entry). es ++ rest) more ∙ append_assoc (entries_of x.job) (e ∷ []) rest ∙ rw (on rest)
      go t (refused k on stays) = t ∙ ap (λ (y : Standing). entries_of y.job ++ rest) stays ∙ rw (on rest)

  pub whole_lists : WholeLists P (started s l)
  unfolding entries_from
  whole_lists =
      let x = started s l in
      let f = started_fine s l acc in
      record {
        takes = λ w b. (takes_on s l acc w x f b).takes;
        only = λ es y t. only_begun es x y f t;
        begins = λ es. only_begun (taken_from x es) x (offer x es) f (leads es x f);
        keeps = λ es. adds es x f;
        last = λ es. leads es x f;
      }
