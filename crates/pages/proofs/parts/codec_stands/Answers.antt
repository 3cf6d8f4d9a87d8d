use Rattle.pages.proofs.Codec.{decodes_encoded, encodes_decoded}
use Rattle.pages.proofs.parts.codec_stands.Goals as goal

pub returns : goal.returns
returns c = (decodes_encoded, encodes_decoded)
