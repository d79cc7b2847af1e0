-- The loop of a build: the spans that went in so far are the last ones.
use Rattle.std.proofs.Common.{◌≡◌, refl, ap, ◌∙◌, true, ℕ, zero, suc, ◌+◌, ◌*◌, ◌/◌, ◌%◌, ◌≤◌, ◌<◌, List, [], ◌∷◌, ◌++◌, length, take, drop, arith, length-append}
use Rattle.std.specs.List.{list_all}
use lib.Dec.{leb}
use lib.ListN.{length-drop, length-map}
use borrow.Author.Tests.{lt-ltb, le-ltb, leb-true}
use Rattle.ranges.specs.Range.{between}
use Rattle.ranges.specs.States.{InOrder}
use Rattle.ranges.specs.Insertion.{insert_r}
use Rattle.ranges.specs.Build.{stated, build_r, ends_b, span_of, spans}
use Rattle.ranges.specs.Words.{range_of, ranges}
use Rattle.ranges.proofs.Cases.{both_true, by}
use Rattle.ranges.proofs.Lists.{long-ranges}
use Rattle.ranges.proofs.Builds.{in-build, few-build}
use Rattle.ranges.proofs.WordLaws.{of-kind, of-comment}
use Rattle.insertion.specs.Parts.{Inserted}
use Rattle.schedule.specs.Rooms.{Leaves, BuildReady}
use Rattle.schedule.proofs.Backwards.{Front, done, done_more, front_less}

ends-drop : (i : ℕ) (l : List ℕ) → ends_b (spans l) ≡ true → ends_b (spans (drop i l)) ≡ true
ends-drop zero l h = h
ends-drop (suc i) [] h = refl
ends-drop (suc i) (w ∷ l) h = ends-drop i l (both_true (leb (w % 65536) 1440) (ends_b (spans l)) h).1

-- no span ends late if no word's does
pub ends_all : (xs : List ℕ) → list_all (λ w. leb (w % 65536) 1440) xs ≡ ends_b (spans xs)
ends_all [] = refl
ends_all (w ∷ xs) = rw (ends_all xs) (by (leb (w % 65536) 1440) (λ e. rw e) (λ e. rw e))

-- the low ten bits of a state's word are its kind and comment
stated-is : (s e state kind comment : ℕ) → kind ≤ 2 → comment < 256 → state ≡ kind * 256 + comment → between s e (range_of state) ≡ record { start = s; end = e; kind = kind; comment = comment }
stated-is s e state kind comment h k q =
    let a : (range_of state).kind ≡ kind = of-kind state ∙ omega arith in
    let b : (range_of state).comment ≡ comment = of-comment state ∙ omega arith in
    rw (a, b)

-- the room ys has the build of the spans of gs that are done
pub record Building (gs : List ℕ) (kind comment : ℕ) (xs ys : List ℕ) (k : ℕ) (left : List ℕ) : Type 0 where
  pub front : Front gs left
  pub size : length ys ≡ length xs
  pub fits : k ≤ length ys
  pub list : ranges (take k ys) ≡ build_r kind comment (spans (done gs left))

module _ (gs : List ℕ) (kind comment : ℕ) (xs : List ℕ) (h : BuildReady gs kind xs) where
  module _ (ys : List ℕ) (k : ℕ) (left : List ℕ) (st : Building gs kind comment xs ys k left) where
    ends-left : (l : List ℕ) → ends_b (spans (done gs l)) ≡ true
    ends-left l = ends-drop (length l) gs h.ends

    -- a build is no longer than what was given
    count : k + length left ≤ length gs
    count =
        let a = ap length st.list in
        let b = long-ranges ys k st.fits in
        let d = few-build kind comment (spans (done gs left)) (ends-left left) in
        let e = length-map (done gs left) span_of ∙ length-drop (length left) gs in
        omega (arith, a, b, d, e, st.front.few)

    module _ (rest : List ℕ) (w : ℕ) (e : left ≡ rest ++ (w ∷ [])) where
      next : done gs rest ≡ w ∷ done gs left
      next = done_more gs left rest w st.front e

      less : length rest < length left
      less = omega (arith, ap length e, length-append rest (w ∷ []))

      end_low : w % 65536 ≤ 1440
      end_low =
          leb-true (w % 65536) 1440 (both_true (leb (w % 65536) 1440) (ends_b (spans (done gs left))) (rw next at (ends-left rest))).0

      pub build_skip : w % 65536 ≤ w / 65536 → Building gs kind comment xs ys k rest
      build_skip u = record {
        front = front_less gs left rest w st.front e;
        size = st.size;
        fits = st.fits;
        list = rw (next, le-ltb (w / 65536) (w % 65536) u) st.list;
      }

      module _ (u : w / 65536 < w % 65536) where
        pub span_fits : (w / 65536 < 2048) × (w % 65536 < 2048)
        span_fits = let e = end_low in (omega arith, omega arith)

        module _ (small : comment < 256) (state : ℕ) (s : state ≡ kind * 256 + comment) (x : ℕ) (p : range_of x ≡ between (w / 65536) (w % 65536) (range_of state)) where
          is-stated : range_of x ≡ stated kind comment (span_of w)
          is-stated = p ∙ stated-is (w / 65536) (w % 65536) state kind comment h.kinds small s

          pub build_ready : (k + 2 ≤ length ys) × (InOrder 0 (ranges (take k ys)) 1440 × ((range_of x).start < (range_of x).end))
          build_ready = (
            omega (arith, count, less, h.room, st.size),
            (rw st.list (in-build kind comment (spans (done gs left)) (ends-left left)), rw is-stated u),
          )

          pub build_more : (zs : List ℕ) (r : ℕ) → Inserted (insert_r (range_of x) (ranges (take k ys))) ys zs k r → Building gs kind comment xs zs r rest
          build_more zs r q = record {
            front = front_less gs left rest w st.front e;
            size = q.size ∙ st.size;
            fits = omega (arith, count, less, h.room, st.size, q.size, q.few);
            list = rw (next, lt-ltb (w / 65536) (w % 65536) u) (rw (is-stated, st.list) at q.list);
          }

    pub build_end : length left ≡ 0 → Leaves (build_r kind comment (spans gs)) ys (length gs) k
    build_end z = record { few = omega (arith, count); list = rw z at st.list }
