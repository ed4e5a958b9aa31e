-- What the reader of words answers, as the definitions see it.
use Rattle.bound_mean.specs.Words as words
use Rattle.bound_run.specs.declared.words.Request.{Request}

-- A request, as the definitions have it.
abbrev pub request_shown : Request → words.Request
request_shown r = record {
  file = r.file.now;
  acts = r.acts.now;
  law = r.law;
  events = r.events;
  repeats = r.repeats;
  seconds = r.seconds;
}
