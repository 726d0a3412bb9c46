-- The commands are ones of which clap gives the matches and the refusals exactly.
use Rattle.std.proofs.Common.{◌≡◌, refl, true}
use Rattle.clap.specs.Words.{is_simple, is_simple_and_free}
use Rattle.lq_options.specs.CommandLine.{lq_app}
use Rattle.lq_options.specs.DeskCommandLine.{desk_app}

pub lq-simple : is_simple lq_app ≡ true
unfolding lq_app
lq-simple = refl

pub lq-free : is_simple_and_free lq_app ≡ true
unfolding lq_app
lq-free = refl

pub desk-simple : is_simple desk_app ≡ true
unfolding desk_app
desk-simple = refl

pub desk-free : is_simple_and_free desk_app ≡ true
unfolding desk_app
desk-free = refl
