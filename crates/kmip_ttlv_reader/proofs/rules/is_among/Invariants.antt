use Rattle.std.proofs.Common.{◌≡◌, drop}
use Rattle.std.specs.{List.list_any, Str.bytes_eq}
use Rattle.kmip_ttlv_reader.proofs.rules.is_among.Given as goal

abbrev pub invariant-loop-one : goal.invariant-loop-one
invariant-loop-one l = list_any (λ one. bytes_eq l.text one.now) l.texts ≡ list_any (λ one. bytes_eq l.text one.now) (drop l.one-index l.texts)
