-- From what is found at the beginning of bytes to what is read there.
use Rattle.std.proofs.Common.{◌≡◌, ℕ, Some, None, List, [], ◌++◌, drop, sym, ◌∙◌, ap, inl, inr, append-nil}
use Rattle.std.specs.Prelude.{Result, Ok, Err, IfOk}
use Rattle.pj_machine.specs.declared.command.Command.{Command}
use Rattle.pj_machine.specs.declared.reply.Numbered.{Numbered}
use Rattle.pj_wire.specs.Replies.{reply_bytes}
use Rattle.pj_wire.specs.Spelled.{EndsWithin}
use Rattle.pj_replies.specs.declared.due.Due.{Due}
use Rattle.pj_replies.specs.declared.decoder.Reading.{Reading}
use Rattle.pj_replies.specs.declared.decoder.Reading.TheVariants.{Whole, More, Strange}
use Rattle.pj_replies.specs.Apart.{IsSpelled, IsApart}
use Rattle.pj_replies.specs.Lines.{IsLine}
use Rattle.pj_replies.specs.Bodies.{IsBodied, ReadsBody, most_of}
use Rattle.pj_replies.specs.Reads.{IsDue, Reads, IsStrangeTo}
use Rattle.pj_replies.proofs.ByDue.{line_to, body_to, reply_is, long_is, long_to, line_no_text}

module _ (x : Command) (d : Due) (is : IsDue x d) (old new : List ℕ) where
  -- a reply of one line
  pub line_whole : (r : Numbered) (count : ℕ) → IsSpelled reply_bytes (IsLine d) old r count → new ≡ drop count old → Reads x old new (Whole r)
  line_whole r count s left = (
    line_to x d r is s.allowed,
    s.stands ∙ ap (λ (t : List ℕ). reply_bytes r ++ t) (sym left),
    line_no_text x d r old [] (drop count old) is s.allowed (append-nil old ∙ s.stands),
  )

  -- less than one
  pub line_part : EndsWithin reply_bytes (IsLine d) old → new ≡ old → Reads x old new More
  line_part p same = (
    same,
    record { value = p.value; allowed = line_to x d p.value is p.allowed; missing = p.missing; whole = p.whole; some = p.some },
    line_no_text x d p.value old p.missing [] is p.allowed (p.whole ∙ sym (append-nil (reply_bytes p.value))),
  )

  -- none, where a body may not come
  pub no_line : most_of d ≡ None → IsApart reply_bytes (IsLine d) old → new ≡ old → Reads x old new Strange
  no_line none n same = (
    same,
    inl (record {
      has_none = λ r rest h e. elim (reply_is x d r is h) [ inl l ↦ n.has_none r rest l e | inr b ↦ other b.1.0 (sym none ∙ b.1.1) ];
      begins_none = λ r more h e. elim (reply_is x d r is h) [ inl l ↦ n.begins_none r more l e | inr b ↦ other b.1.0 (sym none ∙ b.1.1) ];
    }),
  )
    where
      other : (m : ℕ) → None ≡ Some m → ⊥
      other m e = cc e

  -- none, and what is read as a reply with a body
  pub with_body : (m : ℕ) → most_of d ≡ Some m → IsApart reply_bytes (IsLine d) old → (reading : Reading) → ReadsBody m old new reading → Reads x old new reading
  with_body m some n (Whole r) b = (body_to x d m r is some b.0, b.1, λ long. b.2 (long_is x d m old is some long))
  with_body m some n More b =
      (b.0, record { value = b.1.value; allowed = body_to x d m b.1.value is some b.1.allowed; missing = b.1.missing; whole = b.1.whole; some = b.1.some }, λ long. b.2 (long_is x d m old is some long))
  with_body m some n Strange b = (b.0, elim b.1 [ inl apart ↦ inl (strange apart) | inr long ↦ inr (long_to x d m old is some long) ])
    where
      strange : IsApart reply_bytes IsBodied old → IsStrangeTo x old
      strange apart = record {
        has_none = λ r rest h e. elim (reply_is x d r is h) [ inl l ↦ n.has_none r rest l e | inr b ↦ apart.has_none r rest b.0 e ];
        begins_none = λ r more h e. elim (reply_is x d r is h) [ inl l ↦ n.begins_none r more l e | inr b ↦ apart.begins_none r more b.0 e ];
      }

-- whatever the command, where there was memory
pub body_reads : {E : Type 0} (d : Due) (m : ℕ) (old new : List ℕ) → most_of d ≡ Some m → IsApart reply_bytes (IsLine d) old → (r : Result Reading E) → IfOk r (ReadsBody m old new)
    → IfOk r (λ reading. (x : Command) → IsDue x d → Reads x old new reading)
body_reads d m old new some n (Ok reading) b = λ x is. with_body x d is old new m some n reading b
body_reads d m old new some n (Err e) b = tt
