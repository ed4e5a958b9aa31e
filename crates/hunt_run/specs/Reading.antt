-- What the reader of words answers, as the definitions see it.
use Rattle.hunt_mean.specs.Words as words
use Rattle.hunt_run.specs.declared.words.Request.{Request}

abbrev pub request_shown : Request → words.Request
request_shown r = record {
  file = r.file.now;
  law = r.law;
  members = r.members;
  events = r.events;
  runs = r.runs;
  seed = r.seed;
  seconds = r.seconds;
  style = r.style;
}
