-- What a poll and a leave run beside their own steps writes no word of the handshake.
use Rattle.gh_poll.specs.Vocabulary.{IsQuietInHandshake}
use Rattle.gh_poll.specs.Give as give
use Rattle.gh_poll.specs.MarkStack as mark

pub record WhatPollsRunIsQuiet : Type 0 where
  pub gives_back : (g : give.Giving) → IsQuietInHandshake (give.asks g)
  pub marks_a_stack : (m : mark.StackMarking) → IsQuietInHandshake (mark.asks m)
