-- The book's entries and passes, and how the machine sees them.
use Rattle.std.specs.Prelude.{List, map}
use Rattle.pj_book.specs.declared.entry.Entry.{Entry as BookEntry}
use Rattle.pj_book.specs.Token.{Token}
use Rattle.pj_machine.specs.declared.command.Write.{Write}
use Rattle.pj_machine.specs.declared.journal.Entry.{Entry}
use Rattle.pj_machine.specs.Call.{PassView}

-- an entry as the book has it
abbrev pub book_entry : Entry → BookEntry Write
book_entry e = record { pass = e.pass; call = e.call; content = e.write }

-- a journal as the book has it
abbrev pub book_journal : List Entry → List (BookEntry Write)
book_journal entries = map book_entry entries

-- an entry of the book as the machine has it
abbrev pub machine_entry : BookEntry Write → Entry
machine_entry e = record { pass = e.pass; call = e.call; write = e.content }

-- a journal of the book as the machine has it
abbrev pub machine_journal : List (BookEntry Write) → List Entry
machine_journal entries = map machine_entry entries

-- a pass of the book as the machine sees it
abbrev pub pass_view : Token Write → PassView
pass_view p = record { number = p.number; calls = p.calls; journal = machine_journal p.seen }
