use Rattle.std.proofs.Common.{◌≡◌, ℕ, ◌^◌, ◌<◌, List, [], ◌∷◌, ◌++◌, length, replicate, subst, sym, ap, ◌∙◌, rules, Err}
use Rattle.std.proofs.lemmas.Result.{err_from_is_err_and}
use Rattle.kmip_ttlv_types.specs.{declared.typ.TtlvType.TtlvType, ItemTypes.code, ItemTypes.pad_len}
use Rattle.kmip_ttlv_types.specs.Primitives.{WritesLong, content_of, leaf_rest, length_and_content}
use Rattle.kmip_ttlv_types.proofs.LeafWriting.{first_fails, second_fails, last_part, both_written}
use Rattle.kmip_ttlv_types.proofs.primitive.SerializableTtlvType.write.Goals as goal

-- a code, a content with its length, and zeros
abbrev pub rest_of : TtlvType → List ℕ → ℕ → List ℕ
rest_of typ content n = code typ ∷ (length_and_content content ++ replicate (pad_len n) 0)

pub returns-in_err-write : goal.returns-in_err-write
unfolding leaf_rest
returns-in_err-write g c =
    let content : List ℕ = content_of g.Self.HasTtlvType.TTLV_TYPE (g.Self.SerializableTtlvType.value_bytes c.args.self.now) in
    let zeros : List ℕ = replicate (pad_len (length content)) 0 in
    let low : length content < 2 ^ 32 = search rules in
    let h = first_fails (Unit {0}) _ (length content) low (Unit {0}) (code c.ttlv_type.result ∷ []) (length_and_content content ++ zeros) _ _ _
    (g.S.Sink.room c.write.new.dst) _ c.in_err-write.ensures in
    let exit = err_from_is_err_and c.from_residual-in_err-write.result c.from_residual-in_err-write.ensures.1 in
    let named = subst (λ t. WritesLong {T = Unit {0}} (length content) (rest_of t content (length content)) (g.S.Sink.emitted c.args.dst.now)
    (g.S.Sink.emitted c.write.new.dst) (g.S.Sink.room c.args.dst.now) (g.S.Sink.room c.write.new.dst) (Err c.in_err-write.field-0.0))
    c.ttlv_type.ensures h in
    subst (WritesLong (length content) (rest_of g.Self.HasTtlvType.TTLV_TYPE content (length content)) (g.S.Sink.emitted c.args.dst.now)
    (g.S.Sink.emitted c.write.new.dst) (g.S.Sink.room c.args.dst.now) (g.S.Sink.room c.write.new.dst)) (sym (exit.1 ∙ ap Err exit.2)) named

pub returns-in_err-length : goal.returns-in_err-length
unfolding leaf_rest
returns-in_err-length g c =
    let content : List ℕ = content_of g.Self.HasTtlvType.TTLV_TYPE (g.Self.SerializableTtlvType.value_bytes c.args.self.now) in
    let zeros : List ℕ = replicate (pad_len (length content)) 0 in
    let low : length content < 2 ^ 32 = search rules in
    let first = c.in_ok-write.ensures in
    let h = second_fails (Unit {0}) _ (length content) low (code c.ttlv_type.result ∷ []) _ _ _ _ first.0 first.1 ℕ (length_and_content content) zeros _
    (g.S.Sink.room c.write_length_and_value.new.dst) _ c.in_err-length.ensures.writes in
    let exit = err_from_is_err_and c.from_residual-in_err-length.result c.from_residual-in_err-length.ensures.1 in
    let named = subst (λ t. WritesLong {T = Unit {0}} (length content) (rest_of t content (length content)) (g.S.Sink.emitted c.args.dst.now)
    (g.S.Sink.emitted c.write_length_and_value.new.dst) (g.S.Sink.room c.args.dst.now) (g.S.Sink.room c.write_length_and_value.new.dst)
    (Err c.in_err-length.field-0.0)) c.ttlv_type.ensures h in
    subst (WritesLong (length content) (rest_of g.Self.HasTtlvType.TTLV_TYPE content (length content)) (g.S.Sink.emitted c.args.dst.now)
    (g.S.Sink.emitted c.write_length_and_value.new.dst) (g.S.Sink.room c.args.dst.now) (g.S.Sink.room c.write_length_and_value.new.dst))
    (sym (exit.1 ∙ ap Err exit.2)) named

pub returns : goal.returns
unfolding leaf_rest
returns g c =
    let content : List ℕ = content_of g.Self.HasTtlvType.TTLV_TYPE (g.Self.SerializableTtlvType.value_bytes c.args.self.now) in
    let low : length content < 2 ^ 32 = search rules in
    let first = c.in_ok-write.ensures in
    let second = c.in_ok-length.ensures.writes in
    let both = both_written (Unit {0}) (Unit {0}) (length content) low (code c.ttlv_type.result ∷ []) _ _ _ _ first.0 first.1 (length_and_content content) _ _
    second.1 second.2 in
    let h = last_part (Unit {0}) _ (length content) low (code c.ttlv_type.result ∷ length_and_content content) _ _ _ _ both.0 both.1
    (Unit {0}) _ _ _ c.write_pad_bytes.result c.write_pad_bytes.ensures in
    let long : c.in_ok-length.length ≡ length content = c.in_ok-length.ensures.length in
    let padded = subst (λ n. WritesLong (length content) (rest_of c.ttlv_type.result content n) (g.S.Sink.emitted c.args.dst.now)
    (g.S.Sink.emitted c.write_pad_bytes.new.dst) (g.S.Sink.room c.args.dst.now) (g.S.Sink.room c.write_pad_bytes.new.dst) c.write_pad_bytes.result) long h
    in
    subst (λ t. WritesLong {T = Unit {0}} (length content) (rest_of t content (length content)) (g.S.Sink.emitted c.args.dst.now)
    (g.S.Sink.emitted c.write_pad_bytes.new.dst) (g.S.Sink.room c.args.dst.now) (g.S.Sink.room c.write_pad_bytes.new.dst) c.write_pad_bytes.result)
    c.ttlv_type.ensures padded
