-- Elements in the memory of a session, and the stores and loads of their bytes.
use Rattle.std.specs.Prelude.{◌≡◌, ℕ, zero, suc, ◌+◌, ◌*◌, ◌<◌, ◌≤◌, ◌⊎◌, List, [], ◌∷◌, map, Ok, Err, Result, slice_index}
use Rattle.std.specs.List.{range_with_len, flat_map}
use Rattle.allocator.specs.Memory.{Memory, byte_at}
use Rattle.allocator.specs.declared.Allocator.{Ghosts}
use Rattle.allocator.specs.declared.fault.Fault.TheVariants.{Address}
use Rattle.kind.specs.declared.Kind as kinds
use Rattle.session.specs.Calls.{Event, event, load, store, done, byte, refused}
use Rattle.session.specs.Steps.{State}
use Rattle.session.specs.Sessions.{state}
use Rattle.session.specs.Runs.{Run}
use Rattle.session.specs.Records.{Held}
use Rattle.session.specs.declared.fault.Fault.TheVariants.{Allocator}
use Rattle.session.specs.declared.session.Session.{Session}
use Rattle.ser_vec.specs.declared.fault.Fault.{Fault}
use Rattle.ser_vec.specs.declared.fault.Fault.TheVariants.{Session as Nested}

-- so many bytes from an address on
abbrev pub bytes_at : Memory → ℕ → ℕ → List ℕ
bytes_at m at n = map (λ k. byte_at m (at + k)) (range_with_len 0 n)

-- the element at an index, where the first lies at that address
abbrev pub element_at : {K : Type 0} → kinds.Ghosts K → Memory → ℕ → ℕ → K
element_at kind m at i = kind.unpacked (bytes_at m (at + i * kind.wide) kind.wide)

-- the packings of some elements, one after the other
abbrev pub packings : {K : Type 0} → kinds.Ghosts K → List K → List ℕ
packings kind xs = flat_map kind.packed xs

-- the stores of the first n of some bytes, each done, from an offset of the grant's span on; the newest first
abbrev pub stores_of : ℕ → ℕ → List ℕ → ℕ → List Event
stores_of grant offset bs zero = []
stores_of grant offset bs (suc n) = event (store grant (offset + n) (slice_index bs n)) done ∷ stores_of grant offset bs n

-- the loads that answer the first n of some bytes
abbrev pub loads_of : ℕ → ℕ → List ℕ → ℕ → List Event
loads_of grant offset bs zero = []
loads_of grant offset bs (suc n) = event (load grant (offset + n)) (byte (slice_index bs n)) ∷ loads_of grant offset bs n

-- The same, and then one more that is refused for its address. The law of sessions says that no run comes to this.
abbrev pub stores_cut : ℕ → ℕ → List ℕ → ℕ → List Event
stores_cut grant offset bs n = event (store grant (offset + n) (slice_index bs n)) (refused (Allocator Address)) ∷ stores_of grant offset bs n

abbrev pub loads_cut : ℕ → ℕ → List ℕ → ℕ → List Event
loads_cut grant offset bs n = event (load grant (offset + n)) (refused (Allocator Address)) ∷ loads_of grant offset bs n

-- the first n of some bytes stand from an address on, and nothing else differs
pub record Laid (s : State) (at : ℕ) (bs : List ℕ) (n : ℕ) (s' : State) : Type 0 where
  pub live : s'.live ≡ s.live
  pub given : s'.given ≡ s.given
  pub there : (k : ℕ) → k < n → byte_at s'.memory (at + k) ≡ slice_index bs k
  pub elsewhere : (to : ℕ) → (to < at) ⊎ (at + n ≤ to) → byte_at s'.memory to ≡ byte_at s.memory to

module _ {A : Type 0} (allocator : Ghosts A) where
  -- a live span has the grant and the address, and room for n bytes from the offset on
  pub record Room (s : Session A) (grant at offset n : ℕ) : Type 0 where
    pub size : ℕ
    pub held : Held (state allocator s).live grant at size
    pub inside : offset + n ≤ size

  module _ (s : Session A) (grant at offset : ℕ) where
    -- the first n bytes were stored
    pub record Stored (bs : List ℕ) (n : ℕ) (s' : Session A) : Type 0 where
      pub run : Run allocator s (stores_of grant offset bs n) s'
      pub laid : Laid (state allocator s) (at + offset) bs n (state allocator s')

    pub record StoredCut (bs : List ℕ) (most : ℕ) (s' : Session A) : Type 0 where
      pub n : ℕ
      pub less : n < most
      pub run : Run allocator s (stores_cut grant offset bs n) s'
      pub laid : Laid (state allocator s) (at + offset) bs n (state allocator s')

    -- all bytes were stored, or a store was refused for its address
    abbrev pub Writes : List ℕ → ℕ → Result (Unit {0}) Fault → Session A → Type 0
    Writes bs n (Ok u) s' = Stored bs n s'
    Writes bs n (Err fault) s' = (fault ≡ Nested (Allocator Address)) × StoredCut bs n s'

    module _ {K : Type 0} (kind : kinds.Ghosts K) where
      abbrev pub source : List ℕ
      source = bytes_at (state allocator s).memory (at + offset) kind.wide

      pub record LoadedCut : Type 0 where
        pub n : ℕ
        pub less : n < kind.wide
        pub run : Run allocator s (loads_cut grant offset source n) s

      pub record Loaded (x : K) : Type 0 where
        pub value : x ≡ kind.unpacked source
        pub run : Run allocator s (loads_of grant offset source kind.wide) s

  -- the element was loaded, or a load was refused for its address
  abbrev pub Reads : {K : Type 0} → kinds.Ghosts K → Session A → ℕ → ℕ → ℕ → Result K Fault → Type 0
  Reads kind s grant at offset (Ok x) = Loaded s grant at offset kind x
  Reads kind s grant at offset (Err fault) = (fault ≡ Nested (Allocator Address)) × LoadedCut s grant at offset kind
