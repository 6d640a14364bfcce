use Rattle.std.proofs.Common.{sym}
use Rattle.std.proofs.Math.Seq.{length-take-le}
use Rattle.replay.proofs.Fitting.{sentence_fits}
use Rattle.replay.proofs.say_sentence.Goals as goal

pub slice_bounds-say_tokens-end : goal.slice_bounds-say_tokens-end
slice_bounds-say_tokens-end g c = sentence_fits _ _ _ _ _ c.in-Ok.ensures

pub slice_bounds-say_tokens-end-in-Ok : goal.slice_bounds-say_tokens-end-in-Ok
slice_bounds-say_tokens-end-in-Ok g c = sym (length-take-le _ _ (sentence_fits _ _ _ _ _ c.in-Ok.ensures))
