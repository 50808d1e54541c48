use Rattle.std.proofs.Common.{inl, inr, refl}
use Rattle.ttlv_run.proofs.Decoders.{padded_more, spoilt_more}
use Rattle.ttlv_run.proofs.decoder.Decoder.count.Goals as goal

pub returns-in-Padded : goal.returns-in-Padded
returns-in-Padded c = record {
  made = λ digits bytes k. elim c.in-Padded.is [
    | inl is ↦ padded_more c.args.b (rw is at k)
    | inr is ↦ spoilt_more c.args.b (rw is at k)
  ];
  form = refl;
  part = refl;
  waiting = refl;
  offset = refl;
}
