-- Runs over several inputs.
use Rattle.std.proofs.Common.{◌≡◌, ℕ, ◌+◌, ◌<◌, Bool, true, false, Bor, List, Result, length, take, get_or, arith}
use Rattle.std.proofs.lemmas.Grind.{take_at_read}
use Rattle.ttlv_run.specs.{declared.job.Asked.Asked, declared.run_error.RunError.RunError, Headings.is_headed, Reasons.status_in, Texts.Names}
use Rattle.ttlv_run.specs.Files.{At, Opening, FileDone, AllDone, one_more, greater, stops, FilesDone}

module _ {O I : Type 0} (how : Opening O I) (names : Names) (asked : Asked) (headed : Bool) (start : At O) (files : List (Bor (List ℕ))) where
  -- with one file more
  pub done_more : (k : ℕ) (d : Bor (List ℕ)) (then_ now : At O) (before greatest : ℕ) (outcome : Result Bool RunError) (stopped : Bool)
      → AllDone how names asked headed start (take k files) then_ before false
      → k < length files → FileDone how names asked headed (get_or files k d) then_ now outcome → greatest ≡ greater before (status_in outcome)
      → stopped ≡ stops outcome
      → AllDone how names asked headed start (take (k + 1) files) now greatest stopped
  done_more k d then_ now before greatest outcome stopped all lt done is says =
      one_more (take k files) (take (k + 1) files) (get_or files k d) then_ now before greatest outcome stopped all done (take_at_read files k d lt).1 is says

  -- and no other, where the output can't be written
  pub done_last : (k : ℕ) (now : At O) (greatest : ℕ) → headed ≡ is_headed asked (length files)
      → AllDone how names asked headed start (take (k + 1) files) now greatest true → k < length files
      → FilesDone how names asked files start now greatest
  done_last k now greatest heads all lt = record {
    count = k + 1;
    stopped = true;
    headed = headed;
    within = omega (arith, lt);
    heads = heads;
    done = all;
    ended = λ (e : true ≡ false). cc;
  }
