-- What a printer holds.
use Rattle.std.specs.Prelude.{ℕ, Bool, List, Option, string_bytes}
use Rattle.kmip_ttlv_util.specs.TagNames.{name_in}
use Rattle.kmip_ttlv_util.specs.declared.printer.PrettyPrinter.{PrettyPrinter}

-- the prefix that diagnostics omit from tags
abbrev pub prefix_of : {A : Type 0} → PrettyPrinter A → List ℕ
prefix_of p = string_bytes p.prefix

-- the name that is printed for a tag, if any
abbrev pub names_of : {A : Type 0} → PrettyPrinter A → ℕ → Option (List ℕ)
names_of p = name_in p.names

-- whether empty structures are closed
abbrev pub closes_empty : {A : Type 0} → PrettyPrinter A → Bool
closes_empty p = p.closed_empty
