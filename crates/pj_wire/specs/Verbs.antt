-- Verbs as bytes.
use Rattle.std.specs.Prelude.{◌≡◌, ℕ, List, [], ◌∷◌, ◌++◌, codes, take}
use Rattle.pj_wire.specs.declared.verb.Verb.{Verb}
use Rattle.pj_wire.specs.declared.verb.Verb.TheVariants as verb

-- the bytes of the verb alone
abbrev pub text_of : Verb → List ℕ
text_of verb.Apply = codes "apply"
text_of verb.Channels = codes "channels"
text_of verb.Drop = codes "drop"
text_of verb.Fork = codes "fork"
text_of verb.Get = codes "get"
text_of verb.Graph = codes "graph"
text_of verb.Inverse = codes "inverse"
text_of verb.Journal = codes "journal"
text_of verb.Log = codes "log"
text_of verb.New = codes "new"
text_of verb.Print = codes "print"
text_of verb.Pull = codes "pull"
text_of verb.Put = codes "put"
text_of verb.Quit = codes "quit"
text_of verb.Unrecord = codes "unrecord"
text_of verb.Uproot = codes "uproot"

-- a newline where nothing stands behind the verb, else a space
abbrev pub end_of : Verb → ℕ
end_of verb.Channels = 10
end_of verb.Journal = 10
end_of verb.Quit = 10
end_of v = 32

-- the verb with the byte that ends it
abbrev pub word_of : Verb → List ℕ
word_of v = text_of v ++ end_of v ∷ []

-- the other verb begins with as many bytes of this one, and goes on with this byte
abbrev pub GoesOn : Verb → ℕ → ℕ → Verb → Type 0
GoesOn v read byte other = (behind : List ℕ) × (word_of other ≡ take read (word_of v) ++ byte ∷ behind)
