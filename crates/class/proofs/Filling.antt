-- The places, filled one after the other: what stands in the answer area once some of the files have theirs.
use mathlib.Core.Path.{◌≡◌, refl, sym, ap, ap₂, subst, ◌∙◌}
use mathlib.Core.List.{List, [], ◌∷◌, ◌++◌, append-nil, append_assoc}
use Prim.Native.Nat.{ℕ, suc, ◌+◌, ◌-◌, ◌*◌, ◌≤◌, ◌<◌}
use native.Mathlib.Omega.{arith}
use lib.ListN.{length, take, drop, length-append, length-drop, drop_of_length-le}
use lib.Seq.{take_at, drop_at, take_all, drop-drop, append_snoc}
use Rattle.blocks.specs.Block.{le16}
use Rattle.handed.specs.Files.{Holds}
use Rattle.place.specs.Place.{place_size, Places, none, joined, PlaceAfter}
use Rattle.handed.specs.Cursor.{file_at, Ends}
use Rattle.class.specs.Steps.{Ready, PlacesAfter}
use Rattle.handed.proofs.Files.{Headed, headed, empty_list, at_cursor, ends_there, files_same, rests_same}
use Rattle.place.proofs.Lists.{places_long, places_more, joined_more, count_more}

pub record Sofar (s old : List ℕ) (at to : ℕ) (new : List ℕ) : Type 0 where
  pub done : List (List ℕ)
  pub todo : List (List ℕ)
  pub places : List (List ℕ)
  pub within : at ≤ length s
  pub all : Holds s (done ++ todo)
  pub left : Holds (drop at s) todo
  pub placed : Places done places
  pub reached : to ≡ place_size * length done
  pub room : to + place_size * length todo ≤ length old
  pub is : new ≡ joined places ++ drop to old
  pub long : length new ≡ length old

pub sofar_none : (s old : List ℕ) → Ready s old → Sofar s old 0 0 old
sofar_none s old r = record { done = []; todo = r.files; places = []; within = omega arith; all = r.holds; left = r.holds; placed = none; reached = refl; room = omega (arith, r.room); is = refl; long = refl }

module _ (s old : List ℕ) (at to : ℕ) (new : List ℕ) (x : Sofar s old at to new) where
  -- what is left of the area
  done_long : length (joined x.places) ≡ to
  done_long = places_long x.done x.places x.placed ∙ sym x.reached

  rest_is : drop to new ≡ drop to old
  rest_is = ap (drop to) x.is ∙ drop_at (joined x.places) (drop to old) to done_long

  front_is : take to new ≡ joined x.places
  front_is = ap (take to) x.is ∙ take_at (joined x.places) (drop to old) to done_long

  module _ (more : at < length s) where
    pub next : Headed (drop at s) x.todo
    next = headed (drop at s) x.todo x.left (omega (arith, length-drop at s))

    todo_is : length x.todo ≡ suc (length next.others)
    todo_is = ap length next.is

    pub enough : to + place_size ≤ length new
    enough = omega (arith, x.room, x.long, todo_is)

    pub cursor : at + 2 + le16 s at ≤ length s
    cursor = at_cursor s at next.first next.after next.ahead

    pub lent_room : place_size ≤ length (take (length new - to) (drop to new))
    lent_room =
        let e = take_all (length new - to) (drop to new) (omega (arith, length-drop to new)) in
        let l : length (take (length new - to) (drop to new)) ≡ length new - to = ap length e ∙ length-drop to new in
        omega (arith, enough)

    module _ (end : ℕ) (ends : end ≡ at + 2 + le16 s at) (part : List ℕ) (y : PlaceAfter (take (end - (at + 2)) (drop (at + 2) s)) (take (length new - to) (drop to new)) part) where
      abbrev next_new : List ℕ
      next_new = take to new ++ (part ++ drop (length new - to) (drop to new))

      there : Ends s at end
      there = ends_there s at end ends (omega (arith, cursor))

      same_file : next.first ≡ file_at s at end
      same_file = files_same (drop at s) _ _ _ _ next.ahead there.ahead

      same_rest : next.after ≡ drop end s
      same_rest = rests_same (drop at s) _ _ _ _ next.ahead there.ahead

      abbrev file_there : List ℕ
      file_there = file_at s at end

      split : x.todo ≡ file_there ∷ next.others
      split = next.is ∙ ap (λ (f : List ℕ). f ∷ next.others) same_file

      part_is : part ≡ y.bytes ++ drop (to + place_size) old
      part_is =
          let e : take (length new - to) (drop to new) ≡ drop to old = take_all (length new - to) (drop to new) (omega (arith, length-drop to new)) ∙ rest_is in
          y.is ∙ ap (λ (r : List ℕ). y.bytes ++ r) (ap (drop place_size) e ∙ drop-drop place_size to old)

      none_after : drop (length new - to) (drop to new) ≡ []
      none_after = drop_of_length-le (drop to new) fits
        where
          fits : length (drop to new) ≤ length new - to
          fits = omega (arith, length-drop to new)

      new_is : next_new ≡ joined (x.places ++ (y.bytes ∷ [])) ++ drop (to + place_size) old
      new_is =
          ap₂ (λ (u w : List ℕ). u ++ (part ++ w)) front_is none_after
          ∙ ap (λ (u : List ℕ). joined x.places ++ u) (append-nil part ∙ part_is)
          ∙ sym (append_assoc (joined x.places) y.bytes (drop (to + place_size) old))
          ∙ ap (λ (u : List ℕ). u ++ drop (to + place_size) old) (sym (joined_more x.places y.bytes))

      new_long : length next_new ≡ length old
      new_long =
          let a = length-append (joined (x.places ++ (y.bytes ∷ []))) (drop (to + place_size) old) in
          let b = places_long (x.done ++ (file_there ∷ [])) (x.places ++ (y.bytes ∷ [])) (places_more x.done x.places file_there y.bytes x.placed y.placed) in
          let d = count_more x.done file_there in
          let e = length-drop (to + place_size) old in
          let g = x.reached in
          let k = enough in
          let m = x.long in
          ap length new_is ∙ omega arith

      pub sofar_more : Sofar s old end (to + place_size) next_new
      sofar_more = record {
        done = x.done ++ (file_there ∷ []);
        todo = next.others;
        places = x.places ++ (y.bytes ∷ []);
        within = there.within;
        all = subst (λ (fs : List (List ℕ)). Holds s fs) (ap (λ (fs : List (List ℕ)). x.done ++ fs) split ∙ sym (append_snoc x.done file_there next.others)) x.all;
        left = subst (λ (r : List ℕ). Holds r next.others) same_rest next.holds;
        placed = places_more x.done x.places file_there y.bytes x.placed y.placed;
        reached = omega (arith, x.reached, count_more x.done file_there);
        room = omega (arith, x.room, todo_is);
        is = new_is;
        long = new_long;
      }

  pub sofar_all : length s ≤ at → PlacesAfter s old new
  sofar_all h =
      let e : x.todo ≡ [] = empty_list (drop at s) x.todo x.left (omega (arith, length-drop at s)) in
      record {
        files = x.done;
        holds = subst (λ (fs : List (List ℕ)). Holds s fs) (ap (λ (fs : List (List ℕ)). x.done ++ fs) e ∙ append-nil x.done) x.all;
        places = x.places;
        placed = x.placed;
        is = x.is ∙ ap (λ (n : ℕ). joined x.places ++ drop n old) x.reached;
      }
