-- The settings of `from_reader`.
use Rattle.std.specs.Prelude.{◌≡◌, ℕ, Bool, List, Option, Some, None, is_some}
use Rattle.kmip_ttlv_de.specs.declared.stream.config.Config.{Config}
use Rattle.kmip_ttlv_de.specs.declared.stream.config.Buffer.{Buffer}
use Rattle.kmip_ttlv_de.specs.declared.stream.config.Buffer.TheVariants.{Reused, Fresh}

-- the limit on the size of messages, and the bytes in the kept buffer, if there is one
pub record Settings : Type 0 where
  pub limit : Option ℕ
  pub reused : Option (List ℕ)

-- the bytes in a buffer; none if it is an allocator alone
abbrev pub reused_bytes : {A : Type 0} → Buffer A → Option (List ℕ)
reused_bytes (Reused bytes) = Some bytes.items
reused_bytes (Fresh alloc) = None

-- the settings of this configuration
abbrev pub settings_of : {A : Type 0} → Config A → Settings
settings_of c = record { limit = c.limit; reused = reused_bytes c.buffer }

-- whether the reader was left between two messages
abbrev pub is_between : {A : Type 0} → Config A → Bool
is_between c = c.between

-- the limit stays, and there is a buffer if and only if there was one
pub record KeepsSettings (old new : Settings) : Type 0 where
  pub limit : new.limit ≡ old.limit
  pub buffer : is_some new.reused ≡ is_some old.reused
