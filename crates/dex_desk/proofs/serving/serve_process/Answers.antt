use Rattle.dex_desk.proofs.serving.serve_process.Goals as goal

pub returns : goal.returns
returns g c = record {
  ended = c.serve.result;
  is = c.code.ensures;
  talk = c.serve.ensures.talk;
  deaf = c.serve.ensures.deaf;
  mute = c.serve.ensures.mute;
}
