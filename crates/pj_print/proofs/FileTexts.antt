-- The marked text of the strong classes is the text of each file with these parts.
use Rattle.std.proofs.Common.{◌≡◌, ℕ, ◌<◌, true, List, length, sym, ◌∙◌, subst}
use Rattle.std.specs.List.{range_with_len}
use Rattle.std.proofs.lemmas.List.FromFn.{length-map-range_with_len}
use Rattle.pj_bits.specs.Matrix.{bit, size as size_of}
use Rattle.pj_change.specs.Layout.{Shape, IsLayout}
use Rattle.pj_change.specs.MarkedText.{Piece, marked}
use Rattle.pj_change.specs.FileText.{IsClassBefore}
use Rattle.pj_layout.specs.Orders.{Before}
use Rattle.pj_reach.specs.Closure.{Closure, size, classes, HasStrongClasses, IsNumberedByLeast, HasCyclicClasses, HasOrder}
use Rattle.pj_marks.specs.Classes.{classes_of}
use Rattle.pj_print.specs.FileParts.{IsTextOfParts}
use Rattle.pj_print.proofs.Numbers.{vertices_of}
use Rattle.pj_print.proofs.ClassesOf.{all_classes, classes_are}
use Rattle.pj_print.proofs.WrittenClasses.{classes_are_written}
use Rattle.pj_print.proofs.ClassOrder.{layout_of_classes}

-- the classes, their cycles and their order, and no bit beyond the classes
pub record IsClosed (n : ℕ) (edges : List (ℕ × ℕ)) (r : Closure) : Type 0 where
  pub sized : size r ≡ n
  pub strong : HasStrongClasses edges r
  pub numbers : IsNumberedByLeast edges r
  pub cycles : HasCyclicClasses edges r
  pub order : HasOrder edges r
  pub squared : size_of r.before ≡ classes r
  pub inside : (x y : ℕ) → bit r.before x y ≡ true → (x < classes r) × (y < classes r)

pub text_of_parts : (n : ℕ) (edges : List (ℕ × ℕ)) (piece : ℕ → Piece) (r : Closure) → IsClosed n edges r → (s : Shape) → IsLayout (Before r.before) 0 (range_with_len 0 (size_of r.before)) s →
    (text : List ℕ) → text ≡ marked (classes_of piece r) s → IsTextOfParts n edges piece text
text_of_parts n edges piece r closed s layout text is = λ S inode live long parts.
    let sized : length live ≡ size r = long ∙ sym closed.sized in
    let count : size_of r.before ≡ length (all_classes live r) = closed.squared ∙ sym (length-map-range_with_len (vertices_of live r) 0 (classes r)) in
    record {
      live = live;
      live_are = parts.live_are;
      classes = all_classes live r;
      classes_are = classes_are S inode live edges piece parts r sized closed.strong closed.numbers;
      written = classes_of piece r;
      written_are = classes_are_written S inode live edges piece parts r sized closed.numbers closed.cycles;
      shape = s;
      layout = subst (λ k. IsLayout (IsClassBefore S (all_classes live r)) 0 (range_with_len 0 k) s) count
          (layout_of_classes S inode live edges piece parts r sized closed.numbers closed.order closed.inside (range_with_len 0 (size_of r.before)) s layout);
      is = is;
    }
