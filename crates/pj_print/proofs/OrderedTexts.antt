-- Where the edges leave only one order of the vertices, the text of the file is that of the vertices in this order.
use Rattle.std.proofs.Common.{◌≡◌, ℕ, ◌<◌, ◌≤◌, Bool, false, List, [], ◌∷◌, map, refl, sym, ◌∙◌, ap, subst, arith}
use Rattle.std.specs.Prelude.{Contains, All}
use Rattle.std.specs.Ordering.{nat_cmp}
use Rattle.std.specs.Cmp.{nat_cmp_total}
use Rattle.std.proofs.lemmas.List.Elements.{All-contains, All-from_get_or}
use Rattle.std.proofs.lemmas.List.FromFn.{get_or-map-range_with_len}
use Rattle.pj_change.specs.MarkedText.{Piece, Class, Marking, close_run, put_piece, put_each, put_class, class_at, put_shape, put_shapes, marked}
use Rattle.pj_change.proofs.Listings.{one_list}
use Rattle.pj_change.proofs.Members.{first_member, later_member}
use Rattle.pj_reach.specs.Closure.{Closure, classes}
use Rattle.pj_reach.specs.Reach.{AreEdgesBelow}
use Rattle.pj_marks.specs.Classes.{members, class_of, classes_of}
use Rattle.pj_print.specs.FileParts.{IsTextOfParts}
use Rattle.pj_print.specs.InOrder.{no_marking, text_in_order}
use Rattle.pj_print.specs.OnlyOrder.{IsOnlyOrder}
use Rattle.pj_print.proofs.FileTexts.{text_of_parts}
use Rattle.pj_print.proofs.Numbers.{is_member, member_is, members_rise}
use Rattle.pj_print.proofs.OnlyOrders.{single, single_sorted, only, ones, in_series, closure, sized, counted, own_class, not_cyclic, at_in, closed, layout}

-- ---- the marked text of single classes

-- the class with this number is one vertex, and no cycle
abbrev IsOne : List Class → (ℕ → Piece) → ℕ → Type 0
IsOne all piece x = class_at all x ≡ record { cyclic = false; pieces = piece x ∷ [] }

module _ (all : List Class) (piece : ℕ → Piece) where
  put_one : (x : ℕ) → IsOne all piece x → (m : Marking) → put_class (class_at all x) m ≡ put_piece (piece x) m
  put_one x one m = ap (λ (c : Class). put_class c m) one

  put_ones : (xs : List ℕ) → ((x : ℕ) → Contains xs x → IsOne all piece x) → (m : Marking) → put_each (put_shapes all (ones xs)) m ≡ put_each (map (λ x. put_piece (piece x)) xs) m
  put_ones [] each m = refl
  put_ones (x ∷ xs) each m =
      ap (put_each (put_shapes all (ones xs))) (put_one x (each x (first_member x xs)) m) ∙ put_ones xs (λ y k. each y (later_member x xs y k)) (put_piece (piece x) m)

  put_in_series : (xs : List ℕ) → ((x : ℕ) → Contains xs x → IsOne all piece x) → (m : Marking) → put_shape all (in_series xs) m ≡ put_each (map (λ x. put_piece (piece x)) xs) m
  put_in_series [] each m = refl
  put_in_series (x ∷ []) each m = put_one x (each x (first_member x [])) m
  put_in_series (x ∷ y ∷ ys) each m = put_ones (x ∷ y ∷ ys) each m

  marked_in_series : (xs : List ℕ) → ((x : ℕ) → Contains xs x → IsOne all piece x) → marked all (in_series xs) ≡ text_in_order piece xs
  marked_in_series xs each = ap (λ (m : Marking). (close_run m).bytes) (put_in_series xs each no_marking)

-- ---- the classes

module _ (n : ℕ) (edges : List (ℕ × ℕ)) (below : AreEdgesBelow n edges) (order : List ℕ) (h : IsOnlyOrder edges n order) (piece : ℕ → Piece) where
  abbrev r : Closure
  r = closure edges n below order h

  one_member : (x : ℕ) → x < n → members r x ≡ single x
  one_member x x_in =
      one_list nat_cmp nat_cmp_total (λ a. x ≡ a) (λ a. x ≡ a) (λ a e. e) (λ a e. e) (members r x) (single x)
      (record {
        sorted = members_rise r x;
        only = λ a m. (let k = is_member r x a m in sym k.of ∙ own_class edges n below order h a (omega (arith, k.inside, sized edges n below order h)));
        all = λ a e. subst (λ b. Contains (members r x) b) e (member_is r x x (record { inside = omega (arith, x_in, sized edges n below order h); of = own_class edges n below order h x x_in }));
      })
      (record { sorted = single_sorted x; only = λ a m. only x a m; all = λ a e. subst (λ b. Contains (single x) b) e (first_member x []) })

  is_one : (x : ℕ) → x < n → IsOne (classes_of piece r) piece x
  is_one x x_in =
      get_or-map-range_with_len (class_of piece r) 0 (classes r) x x _ (omega (arith, x_in, counted edges n below order h)) (omega arith)
      ∙ ap (λ (b : Bool). record { cyclic = b; pieces = map piece (members r x) }) (not_cyclic edges n below order h x x_in)
      ∙ ap (λ (xs : List ℕ). record { cyclic = false; pieces = map piece xs }) (one_member x x_in)

  order_in : All (λ x. x < n) order
  order_in = All-from_get_or (λ x. x < n) order 0 (λ k low. at_in edges n below order h k (omega (arith, low, h.long)))

  -- they are numbers of vertices
  pub order_below : (m : ℕ) → n ≤ m → (xs : List ℕ) → xs ≡ order → All (λ x. x < m) xs
  order_below m few xs is = subst (All (λ x. x < m)) (sym is) (λ k d low. omega (arith, order_in k d low, few))

  pub text_of_order : (text : List ℕ) → text ≡ text_in_order piece order → IsTextOfParts n edges piece text
  text_of_order text is =
      text_of_parts n edges piece r (closed edges n below order h) (in_series order) (layout edges n below order h) text
      (is ∙ sym (marked_in_series (classes_of piece r) piece order (λ x m. is_one x (All-contains (λ y. y < n) order x order_in m))))
