-- The ledger of a session: what its calls and their answers add up to, with no look at the memory.
use Rattle.std.specs.Prelude.{◌≡◌, ℕ, ◌+◌, ◌-◌, ◌*◌, max, ◌⊎◌, List, [], ◌∷◌, length, ◌≢◌}

-- a span: the number of its grant, its address, its size and its alignment
pub record Span : Type 0 where
  pub grant : ℕ
  pub at : ℕ
  pub size : ℕ
  pub align : ℕ

abbrev pub new_span : ℕ → ℕ → ℕ → ℕ → Span
new_span grant at size align = record { grant = grant; at = at; size = size; align = align }

-- a store: the byte that was stored through a grant, at an offset
pub record Note : Type 0 where
  pub grant : ℕ
  pub offset : ℕ
  pub byte : ℕ

-- what the ledger is fed of a call and its answer
pub data Entry : Type 0 where
  adds : Span → Entry
  removes : Entry
  notes : Note → Entry
  nothing : Entry

-- the live spans and the stores, both newest first, with the most bytes and spans that were live at once and the largest alignment
pub record Ledger : Type 0 where
  pub live : List Span
  pub stores : List Note
  pub peak_bytes : ℕ
  pub peak_spans : ℕ
  pub largest : ℕ

-- the bytes of some spans, without what lies between them
abbrev pub bytes : List Span → ℕ
bytes [] = 0
bytes (span ∷ older) = span.size + bytes older

abbrev pub all_but_newest : List Span → List Span
all_but_newest [] = []
all_but_newest (span ∷ older) = older

abbrev pub empty : Ledger
empty = record { live = []; stores = []; peak_bytes = 0; peak_spans = 0; largest = 1 }

-- the ledger with one entry more
abbrev pub fed : Ledger → Entry → Ledger
fed ledger (adds span) =
    record {
      live = span ∷ ledger.live;
      stores = ledger.stores;
      peak_bytes = max ledger.peak_bytes (bytes (span ∷ ledger.live));
      peak_spans = max ledger.peak_spans (length (span ∷ ledger.live));
      largest = max ledger.largest span.align;
    }
fed ledger removes =
    record {
      live = all_but_newest ledger.live;
      stores = ledger.stores;
      peak_bytes = ledger.peak_bytes;
      peak_spans = ledger.peak_spans;
      largest = ledger.largest;
    }
fed ledger (notes note) =
    record {
      live = ledger.live;
      stores = note ∷ ledger.stores;
      peak_bytes = ledger.peak_bytes;
      peak_spans = ledger.peak_spans;
      largest = ledger.largest;
    }
fed ledger nothing = ledger

-- how many bytes serve, in one block, all that the ledger has seen
abbrev pub need : Ledger → ℕ
need ledger = ledger.peak_bytes + ledger.peak_spans * (ledger.largest - 1)

-- the need with one more push included, wherever it would lie
abbrev pub need_with : Ledger → ℕ → ℕ → ℕ
need_with ledger size align = need (fed ledger (adds (new_span 0 0 size align)))

-- the span is one of them
abbrev pub Among : Span → List Span → Type 0
Among span [] = ⊥
Among span (first ∷ rest) = (span ≡ first) ⊎ Among span rest

-- the last store through that grant at that offset stored that byte
abbrev pub LastStored : List Note → ℕ → ℕ → ℕ → Type 0
LastStored [] grant offset byte = ⊥
LastStored (note ∷ earlier) grant offset byte =
    ((note.grant ≡ grant) × (note.offset ≡ offset) × (note.byte ≡ byte))
    ⊎ ((note.grant ≡ grant → note.offset ≢ offset) × LastStored earlier grant offset byte)
