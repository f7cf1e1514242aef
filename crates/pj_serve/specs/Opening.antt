-- What is opened, and why an opening failed.
use Rattle.std.specs.Prelude.{◌≡◌, ◌⊎◌, ℕ, ◌+◌, ◌<◌, ◌≤◌, Bool, List, [], ◌∷◌, ◌++◌, length, codes, string_bytes, slice_index_or, Option, Some, None}
use Rattle.std.specs.declared.string.String.{String}
use Rattle.pj_io.specs.Told.{Where}
use Rattle.pj_io.specs.Causes.{Rose}
use Rattle.pj_io.specs.Source.{NewSource}
use Rattle.pj_io.specs.Sink.{NewSink}
use Rattle.pj_serve.specs.declared.finish.Kept.{Kept}
use Rattle.pj_serve.specs.declared.opening.Opened.{Opened}
use Rattle.pj_serve.specs.declared.status.Status.{Status}
use Rattle.pj_serve.specs.declared.status.Status.TheVariants.{ReadFault, WriteFault, Memory}
use Rattle.pj_io.specs.Meanings.{Offices, Sources, Streams}

-- a new source, which gives these bytes where its opener tells
pub record IsSource {S : Type 0} (sources : Sources S) (tells : Bool) (bytes : List ℕ) (source : S) : Type 0 where
  pub new : NewSource tells sources source
  pub bytes_are : Where tells (sources.left source ≡ bytes)

-- a new source, which gives these bytes where the office tells, and a new sink with this label
pub record IsOpened {S D : Type 0} (streams : Streams S D) (tells : Bool) (bytes label : List ℕ) (opened : Opened S D) : Type 0 where
  pub source : NewSource tells streams.sources opened.source
  pub bytes_are : Where tells (streams.sources.left opened.source ≡ bytes)
  pub sink : NewSink streams.sinks opened.sink
  pub label_is : Where (streams.sinks.tells opened.sink) (streams.sinks.label opened.sink ≡ label)

-- a new sink without a label
pub record IsOutput {S D : Type 0} (streams : Streams S D) (sink : D) : Type 0 where
  pub new : NewSink streams.sinks sink
  pub label_is : Where (streams.sinks.tells sink) (streams.sinks.label sink ≡ [])

module _ {O S D : Type 0} (offices : Offices O) (streams : Streams S D) (office : O) where
  -- the input and the output
  abbrev pub IsInputAndOutput : Opened S D → Type 0
  IsInputAndOutput opened = IsOpened streams (offices.tells office) (offices.contents office).input [] opened

  -- the script under a path, and the sink for the replies to it
  abbrev pub IsScript : List ℕ → Opened S D → Type 0
  IsScript path opened = IsOpened streams (offices.tells office) ((offices.contents office).script path) (path ++ codes ".out") opened

  -- the scripts under the first paths, in their order
  pub record AreFirst {A : Type 0} (paths : List (String A)) (opened : List (Opened S D)) : Type 0 where
    pub few : length opened ≤ length paths
    pub each : (i : ℕ) (p : String A) (o : Opened S D) → i < length opened →
        IsScript (string_bytes (slice_index_or paths i p)) (slice_index_or opened i o)

  -- the scripts under all paths, in their order
  pub record AreScripts {A : Type 0} (paths : List (String A)) (opened : List (Opened S D)) : Type 0 where
    pub as_many : length opened ≡ length paths
    pub each : (i : ℕ) (p : String A) (o : Opened S D) → i < length paths →
        IsScript (string_bytes (slice_index_or paths i p)) (slice_index_or opened i o)

-- why an opening failed: a fault where its count rose, or want of memory
abbrev pub OpeningFailed : Status → Type 0 → Status → Type 0
OpeningFailed fault Rises status = ((status ≡ fault) × Rises) ⊎ (status ≡ Memory)

-- pairs that were opened, as those of sessions that did not run, whose passes have the numbers from this one on
abbrev pub handed_back : {S D : Type 0} → ℕ → List (Opened S D) → List (Kept S D)
handed_back pass [] = []
handed_back pass (o ∷ os) = record { pass = pass; source = o.source; sink = o.sink } ∷ handed_back (pass + 1) os

module _ {O S D : Type 0} (offices : Offices O) (streams : Streams S D) (old new : O) where
  -- a count of openings that failed rose
  abbrev pub ReadRose : Type 0
  ReadRose = Rose (offices.read_faults old) (offices.read_faults new)

  abbrev pub WriteRose : Type 0
  WriteRose = Rose (offices.write_faults old) (offices.write_faults new)

  -- there is a source, with these bytes, and it is as it was opened
  abbrev pub IsUnpaired : List ℕ → Option S → Type 0
  IsUnpaired bytes None = ⊥
  IsUnpaired bytes (Some source) = IsSource streams.sources (offices.tells old) bytes source

  -- Why a source with these bytes and its sink were not both opened, by the status: the source could not be opened; or the sink, and
  -- the source is as it was opened; or memory was wanted.
  abbrev pub LacksPair : List ℕ → Option S → Status → Type 0
  LacksPair bytes source ReadFault = (source ≡ None) × ReadRose × (offices.write_faults new ≡ offices.write_faults old)
  LacksPair bytes source WriteFault = IsUnpaired bytes source × WriteRose
  LacksPair bytes source Memory = source ≡ None
  LacksPair bytes source other = ⊥

  -- Where the openings of `run` stopped, by what was opened: all pairs, so it was at the output; or the source behind them, so it was at
  -- the sink for its replies.
  abbrev pub StopsWriting : {A : Type 0} → List (String A) → ℕ → Option S → Type 0
  StopsWriting {A} paths pairs None = pairs ≡ length paths
  StopsWriting {A} paths pairs (Some source) = (pairs < length paths) × ((p : String A) →
      IsSource streams.sources (offices.tells old) ((offices.contents old).script (string_bytes (slice_index_or paths pairs p))) source)

  -- why not all that `run` takes was opened, by the status: a script could not be opened; or the sink for its replies, or the output; or
  -- memory was wanted
  abbrev pub LacksScript : {A : Type 0} → List (String A) → List (Opened S D) → Option S → Status → Type 0
  LacksScript paths opened source ReadFault =
      AreFirst offices streams old paths opened × (length opened < length paths) × (source ≡ None) × ReadRose
  LacksScript paths opened source WriteFault =
      AreFirst offices streams old paths opened × StopsWriting paths (length opened) source × WriteRose
  LacksScript paths opened source Memory = source ≡ None
  LacksScript paths opened source other = ⊥

  -- which opening of `one` failed; no pair is handed back
  abbrev pub LacksOne : List (Kept S D) → Option S → Status → Type 0
  LacksOne kept input ended = (kept ≡ []) × LacksPair (offices.contents old).input input ended

  -- which opening of `run` failed; the pairs that were opened before it are handed back, and nothing where memory was wanted
  abbrev pub LacksRun : {A : Type 0} → List (String A) → List (Kept S D) → Option S → Status → Type 0
  LacksRun paths kept input Memory = (kept ≡ []) × (input ≡ None)
  LacksRun paths kept input ended = (opened : List (Opened S D)) × (kept ≡ handed_back 1 opened) × LacksScript paths opened input ended

-- which opening of `serve` failed: that of its doors; nothing is handed back
abbrev pub LacksDoors : {O S D : Type 0} → Offices O → O → O → List (Kept S D) → Option S → Status → Type 0
LacksDoors offices old new kept input ReadFault = (kept ≡ []) × (input ≡ None) × Rose (offices.read_faults old) (offices.read_faults new)
LacksDoors offices old new kept input Memory = (kept ≡ []) × (input ≡ None)
LacksDoors offices old new kept input other = ⊥
