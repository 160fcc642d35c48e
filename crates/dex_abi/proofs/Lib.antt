mod CheckedLaws
